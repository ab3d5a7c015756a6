-- Links that are taken into a store of no link, in any order.
use Rattle.std.proofs.Common.{◌≡◌, ◌≤◌, ◌↔◌, ℕ, List, Option, Some, None, sym, ap, subst, ◌∙◌}
use Rattle.std.specs.Ordering.{nat_cmp}
use Rattle.std.specs.Option.{option_or}
use Rattle.std.specs.FinMap.{get, len, empty, get-empty}
use Rattle.ovs_types.specs.Schema.{SchemaValue}
use Rattle.ovs_links.specs.declared.link.Link.{Link}
use Rattle.ovs_links.specs.Sets.{Among, IsConsistent, IsLinkSet}
use Rattle.ovs_links.specs.Store.{max_links}
use Rattle.ovs_links.specs.Kept.{from_links}
use Rattle.ovs_links.specs.Join.{AreJoinable, join}
use Rattle.ovs_links.specs.Outcomes.{taken_all}
use Rattle.ovs_links.proofs.JoinLemmas.{Links, get-join, same_links}
use Rattle.ovs_links.proofs.OrderLemmas.{taken_same}
use Rattle.ovs_fold_script.specs.Stores.{no_links}

abbrev nothing : Links
nothing = empty

none_at : (q : ℕ) (l : Link) → get nothing q ≡ Some l → ⊥
none_at q l e = let bad : None ≡ Some l = sym (get-empty nat_cmp q) ∙ e in cc

no_set : IsLinkSet nothing
no_set =
    record {
      keyed = λ q l e. absurd (none_at q l e);
      consistent = record {
        by_prev = λ l m a b e. absurd (none_at l.prev l a);
        by_id = λ l m a b e. absurd (none_at l.prev l a);
      };
    }

joined_to_none : (m : Links) → join nothing m ≡ m
joined_to_none m = same_links (join nothing m) m (λ q. get-join nothing m q ∙ ap (λ (o : Option Link). option_or o (get m q)) (get-empty nat_cmp q))

joinable : (m : Links) → len m ≤ max_links → AreJoinable nothing m
joinable m few =
    record {
      agree = record {
        by_prev = λ l k a b e. absurd (none_at l.prev l a);
        by_id = λ l k a b e. absurd (none_at l.prev l a);
      };
      few = subst (λ (n : Links). len n ≤ max_links) (sym (joined_to_none m)) few;
    }

-- two lists of the same links lead to the same store
pub taken_alike : (schema : SchemaValue) (ls ms : List Link) → IsConsistent (Among ls) → len (from_links ls) ≤ max_links
    → ((l : Link) → Among ls l ↔ Among ms l) → taken_all (no_links schema) ls ≡ taken_all (no_links schema) ms
taken_alike schema ls ms set few same = taken_same (no_links schema) ls ms no_set set (joinable (from_links ls) few) same

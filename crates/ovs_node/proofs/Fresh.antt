-- A store that holds nothing, and a feed of which nothing came.
use Rattle.std.proofs.Common.{◌≡◌, List, [], None, refl, sym, ap, ◌∙◌, arith}
use Rattle.std.specs.Ordering.{nat_cmp}
use Rattle.std.specs.FinMap.{empty, get-empty, len, len-empty}
use Rattle.ovs_types.specs.Schema.{SchemaValue}
use Rattle.ovs_links.specs.Sets.{Among, Holds}
use Rattle.ovs_links.specs.declared.link.Link.{Link}
use Rattle.ovs_node.specs.Ledger.{IntakeValue, IsAccountOf, IsFresh}

none_held : (l : Link) → Holds (empty {X = Link} {R = nat_cmp}) l → Among [] l
none_held l h = absurd cc (sym (get-empty nat_cmp l.prev) ∙ h)

pub account_empty : (schema : SchemaValue) (i : IntakeValue) → IsFresh schema i.store → i.feed.taken ≡ [] → i.kept ≡ None → i.untold ≡ [] → i.forks ≡ 0 → i.short ≡ 0 → i.dropped ≡ 0 → IsAccountOf i
account_empty schema i e taken kept untold forks short dropped =
    record {
      done = [];
      split = rw (taken, kept) refl;
      fates = [];
      are = tt;
      held = rw (ap (λ s. s.links) e) none_held;
      stays = λ l a. absurd a;
      gone = 0;
      all = (let size = ap (λ s. len s.links) e ∙ len-empty nat_cmp Link in omega (arith, size));
      dropped = omega (arith, dropped);
      told = [];
      all_told = sym untold;
      forks = rw untold (omega (arith, forks));
      short = rw untold (omega (arith, short));
    }

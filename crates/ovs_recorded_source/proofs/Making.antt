-- The links that a step makes, and those that it takes out.
use Rattle.std.proofs.Common.{◌≡◌, ◌∙◌, ℕ, List, [], ◌∷◌, ◌++◌, Option, Some, None, refl, sym, ap, map, length, append-nil}
use Rattle.std.specs.Prelude.{option_to_list, slice_get}
use Rattle.serde_json.specs.Data.{Data}
use Rattle.serde_json.specs.View.{view}
use Rattle.ovs_authority.specs.declared.response.Response.{Response}
use Rattle.ovs_authority.specs.declared.ask.Verb.{Verb}
use Rattle.ovs_authority.specs.declared.ask.Verb.TheVariants as verbs
use Rattle.ovs_links.specs.declared.link.Link.{Link}
use Rattle.ovs_source.specs.Numbers.{number_of}
use Rattle.ovs_source.specs.Renewing.{RenewsUnder}
use Rattle.ovs_source.specs.Replying.{TransactsUnder, RepliesTo, KeepsSource, link_of}
use Rattle.ovs_source.specs.SourceDesk.{SourceDeskValue}
use Rattle.ovs_source.specs.Trimming.{renewing}
use Rattle.ovs_source.specs.declared.renewal.Renewal.{Renewal}
use Rattle.ovs_recorded_source.specs.Steps.{link_behind}

-- ---- a link that was put behind others is found there

none_behind : (xs : List Link) → slice_get xs (length xs) ≡ None
none_behind [] = refl
none_behind (x ∷ xs) = none_behind xs

last_behind : (xs : List Link) (l : Link) → slice_get (xs ++ l ∷ []) (length xs) ≡ Some l
last_behind [] l = refl
last_behind (x ∷ xs) l = last_behind xs l

behind : (old : List Link) (link : Option Link) → link_behind old (old ++ option_to_list link) ≡ link
behind old None = ap (λ (xs : List Link). slice_get xs (length old)) (append-nil old) ∙ none_behind old
behind old (Some l) = last_behind old l

put_behind : (old new : List Link) (link : Option Link) → new ≡ old ++ option_to_list link → new ≡ old ++ option_to_list (link_behind old new)
put_behind old new link is = is ∙ ap (λ (o : Option Link). old ++ option_to_list o) (sym (ap (link_behind old) is ∙ behind old link))

none_put : (d e : SourceDeskValue) → e.unpublished ≡ d.unpublished → e.unpublished ≡ d.unpublished ++ option_to_list (link_behind d.unpublished e.unpublished)
none_put d e same = put_behind d.unpublished e.unpublished None (same ∙ sym (append-nil d.unpublished))

-- ---- what a request makes

under_makes : (next : Option ℕ) (d : SourceDeskValue) (session : ℕ) (operations : List Data) (a : Response) (e : SourceDeskValue) → TransactsUnder next d session operations a e
    → e.unpublished ≡ d.unpublished ++ option_to_list (link_behind d.unpublished e.unpublished)
under_makes None d session operations a e is = none_put d e (ap (λ (x : SourceDeskValue). x.unpublished) is.1)
under_makes (Some id) d session operations a e is = put_behind d.unpublished e.unpublished (link_of is.came) is.unpublished

source_kept : (d e : SourceDeskValue) → KeepsSource d e → e.unpublished ≡ d.unpublished
source_kept d e keeps = ap (λ (x : SourceDeskValue). x.unpublished) keeps

pub asking_makes : (d : SourceDeskValue) (session : ℕ) (verb : Verb) (a : Response) (e : SourceDeskValue) → RepliesTo d session verb a e → e.unpublished ≡ d.unpublished ++ option_to_list (link_behind d.unpublished e.unpublished)
asking_makes d session (verbs.Transact operations) a e is = under_makes d.next d session (map view operations.items) a e is
asking_makes d session (verbs.Lock name) a e is = none_put d e (source_kept d e is.source)
asking_makes d session (verbs.Steal name) a e is = none_put d e (source_kept d e is.source)
asking_makes d session (verbs.Unlock name) a e is = none_put d e (source_kept d e is.1)

-- ---- what an epoch makes

pub renewing_makes : (renewal : Option Renewal) (next : Option ℕ) (d e : SourceDeskValue) → RenewsUnder renewal next d e → e.unpublished ≡ d.unpublished ++ renewing d.source (number_of next) ∷ []
renewing_makes None next d e is = absurd is
renewing_makes (Some r) None d e is = absurd is
renewing_makes (Some r) (Some id) d e is = is.unpublished ∙ ap (λ (l : Link). d.unpublished ++ l ∷ []) is.source.1

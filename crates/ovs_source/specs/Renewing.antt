-- When a source's desk begins a new epoch, and what it is then.
use Rattle.std.specs.Prelude.{◌≡◌, ◌≤◌, ◌++◌, ◌+◌, ◌-◌, ◌^◌, ℕ, suc, Bool, true, false, min, [], ◌∷◌, Option, Some, None, Result, Ok, Err, length}
use Rattle.ovs_links.specs.Store.{Stored}
use Rattle.ovs_links.specs.declared.link.Link.{Link}
use Rattle.ovs_source.specs.Numbers.{next_at}
use Rattle.ovs_source.specs.SourceDesk.{SourceDeskValue}
use Rattle.ovs_source.specs.Trimming.{TrimsTo}
use Rattle.ovs_source.specs.declared.renewal.Renewal.{Renewal}
use Rattle.ovs_source.specs.declared.trim_error.TrimError.{TrimError}
use Rattle.ovs_source.specs.declared.trim_error.TrimError.TheVariants.{IdTaken}

-- after so many links beside these
abbrev pub renewal_from : ℕ → ℕ → Renewal
renewal_from every links = record { every = every; at = min (links + every) (2 ^ 64 - 1) }

-- the chain is as long as it is to become in one epoch
abbrev pub IsDue : Option Renewal → Stored → Type 0
IsDue None s = ⊥
IsDue (Some r) s = r.at ≤ length s.folded

-- a new epoch begins under this id: its link waits behind the others, and the next begins after as many more
pub record Renews (d : SourceDeskValue) (r : Renewal) (id : ℕ) (e : SourceDeskValue) : Type 0 where
  pub link : Link
  pub source : TrimsTo d.source id (Ok link) e.source
  pub unpublished : e.unpublished ≡ d.unpublished ++ link ∷ []
  pub next : e.next ≡ next_at (suc id)
  pub renewal : e.renewal ≡ Some (renewal_from r.every 1)
  pub locks : e.locks ≡ d.locks
  pub fresh : e.fresh ≡ d.fresh

-- under the next commit id, where there is one
abbrev pub RenewsUnder : Option Renewal → Option ℕ → SourceDeskValue → SourceDeskValue → Type 0
RenewsUnder None next d e = ⊥
RenewsUnder (Some r) None d e = ⊥
RenewsUnder (Some r) (Some id) d e = Renews d r id e

-- why none begins: once the greatest id has been used, each finds its id taken
abbrev pub IsRefused : Option ℕ → SourceDeskValue → TrimError → Type 0
IsRefused None d why = why ≡ IdTaken
IsRefused (Some id) d why = TrimsTo d.source id (Err why) d.source

-- what is answered: whether an epoch was to begin and did; a refusal leaves all as it was
abbrev pub RenewsTo : SourceDeskValue → Result Bool TrimError → SourceDeskValue → Type 0
RenewsTo d (Ok true) e = IsDue d.renewal d.source × RenewsUnder d.renewal d.next d e
RenewsTo d (Ok false) e = ¬ (IsDue d.renewal d.source) × (e ≡ d)
RenewsTo d (Err why) e = IsDue d.renewal d.source × IsRefused d.next d why × (e ≡ d)

-- all but when the next epoch begins is as it was
abbrev pub KeepsAllButRenewal : SourceDeskValue → SourceDeskValue → Type 0
KeepsAllButRenewal d e = e ≡ record { source = d.source; locks = d.locks; fresh = d.fresh; next = d.next; unpublished = d.unpublished; renewal = e.renewal }

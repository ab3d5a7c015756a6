-- A source's desk keeps its schema, whatever its steps.
use Rattle.std.proofs.Common.{◌≡◌, ◌∙◌, ℕ, List, [], ◌∷◌, Bool, true, false, Option, Some, None, Result, Ok, Err, map, ap}
use Rattle.serde_json.specs.Data.{Data}
use Rattle.serde_json.specs.View.{view}
use Rattle.ovs_rows.specs.Row.{Rows}
use Rattle.ovs_authority.specs.declared.response.Response.{Response}
use Rattle.ovs_authority.specs.declared.ask.Verb.{Verb}
use Rattle.ovs_authority.specs.declared.ask.Verb.TheVariants as verbs
use Rattle.ovs_links.specs.Store.{Stored}
use Rattle.ovs_links.specs.declared.link.Link.{Link}
use Rattle.ovs_source.specs.Commits.{CommitsTo}
use Rattle.ovs_source.specs.Renewing.{RenewsTo, RenewsUnder}
use Rattle.ovs_source.specs.Replying.{TransactsUnder, RepliesTo}
use Rattle.ovs_source.specs.SourceDesk.{SourceDeskValue, TakesLink}
use Rattle.ovs_source.specs.Transacting.{Asked, effect_in, LeadsTo, FindsNoRoom, TransactsTo}
use Rattle.ovs_source.specs.declared.error.SourceError.{SourceError}
use Rattle.ovs_source.specs.declared.error.SourceError.TheVariants.{IdTaken, RowIdsSpent, Full, NoMemory}
use Rattle.ovs_source.specs.Trimming.{TrimsTo}
use Rattle.ovs_source.specs.declared.renewal.Renewal.{Renewal}
use Rattle.ovs_source.specs.declared.transacting.Outcome.{Outcome}
use Rattle.ovs_source.specs.declared.trim_error.TrimError.{TrimError}
use Rattle.ovs_recorded_source.specs.Steps.{SourceState, Does, DoesAll}
use Rattle.ovs_recorded_source.specs.declared.step.SourceStep.{SourceStep}
use Rattle.ovs_recorded_source.specs.declared.step.SourceStep.TheVariants as steps

commits_keep : (s : Stored) (id : ℕ) (rows : Rows) (r : Result (Option Link) SourceError) (t : Stored) → CommitsTo s id rows r t → t.schema ≡ s.schema
commits_keep s id rows (Ok None) t c = ap (λ (x : Stored). x.schema) c.1
commits_keep s id rows (Ok (Some l)) t c = ap (λ (x : Stored). x.schema) c.2
commits_keep s id rows (Err IdTaken) t c = absurd c
commits_keep s id rows (Err RowIdsSpent) t c = absurd c
commits_keep s id rows (Err Full) t c = ap (λ (x : Stored). x.schema) c.2
commits_keep s id rows (Err NoMemory) t c = ap (λ (x : Stored). x.schema) c

leads_keep : (s : Stored) (id : ℕ) (rows : Option Rows) (made : Option Link) (t : Stored) → LeadsTo s id rows made t → t.schema ≡ s.schema
leads_keep s id None made t c = ap (λ (x : Stored). x.schema) c.1
leads_keep s id (Some rows) made t c = commits_keep s id rows (Ok made) t c

no_room_keeps : (s : Stored) (id : ℕ) (rows : Option Rows) (t : Stored) → FindsNoRoom s id rows t → t.schema ≡ s.schema
no_room_keeps s id None t c = absurd c
no_room_keeps s id (Some rows) t c = commits_keep s id rows (Err Full) t c

transacts_keep : (s : Stored) (fresh : ℕ) (a : Asked) (r : Result Outcome SourceError) (t : Stored) (rest : ℕ) → TransactsTo s fresh a r t rest
    → t.schema ≡ s.schema
transacts_keep s fresh a (Ok o) t rest c = leads_keep s a.id (effect_in s a c.1.row_ids).rows o.link t c.1.leads
transacts_keep s fresh a (Err IdTaken) t rest c = ap (λ (x : Stored). x.schema) c.1
transacts_keep s fresh a (Err RowIdsSpent) t rest c = ap (λ (x : Stored). x.schema) c.2
transacts_keep s fresh a (Err Full) t rest c = no_room_keeps s a.id (effect_in s a c.1.0).rows t c.1.3
transacts_keep s fresh a (Err NoMemory) t rest c = ap (λ (x : Stored). x.schema) c.0

under_keeps : (next : Option ℕ) (d : SourceDeskValue) (session : ℕ) (operations : List Data) (a : Response) (e : SourceDeskValue) → TransactsUnder next d session operations a e
    → e.source.schema ≡ d.source.schema
under_keeps None d session operations a e c = ap (λ (x : SourceDeskValue). x.source.schema) c.1
under_keeps (Some id) d session operations a e c = transacts_keep _ _ _ _ _ _ c.source

asking_keeps : (d : SourceDeskValue) (session : ℕ) (verb : Verb) (a : Response) (e : SourceDeskValue) → RepliesTo d session verb a e → e.source.schema ≡ d.source.schema
asking_keeps d session (verbs.Transact operations) a e c = under_keeps d.next d session (map view operations.items) a e c
asking_keeps d session (verbs.Lock name) a e c = ap (λ (x : SourceDeskValue). x.source.schema) c.source
asking_keeps d session (verbs.Steal name) a e c = ap (λ (x : SourceDeskValue). x.source.schema) c.source
asking_keeps d session (verbs.Unlock name) a e c = ap (λ (x : SourceDeskValue). x.source.schema) c.1

taking_keeps : (d : SourceDeskValue) (link : Option Link) (e : SourceDeskValue) → TakesLink d link e → e.source ≡ d.source
taking_keeps d None e c = ap (λ (x : SourceDeskValue). x.source) c.1
taking_keeps d (Some link) e c = ap (λ (x : SourceDeskValue). x.source) c.1

-- a new epoch keeps it too
trims_keep : (s : Stored) (id : ℕ) (l : Link) (t : Stored) → TrimsTo s id (Ok l) t → t.schema ≡ s.schema
trims_keep s id l t c = ap (λ (x : Stored). x.schema) c.2

under_renews : (renewal : Option Renewal) (next : Option ℕ) (d e : SourceDeskValue) → RenewsUnder renewal next d e → e.source.schema ≡ d.source.schema
under_renews None next d e c = absurd c
under_renews (Some r) None d e c = absurd c
under_renews (Some r) (Some id) d e c = trims_keep d.source id c.link e.source c.source

renewing_keeps : (d : SourceDeskValue) (r : Result Bool TrimError) (e : SourceDeskValue) → RenewsTo d r e → e.source.schema ≡ d.source.schema
renewing_keeps d (Ok true) e c = under_renews d.renewal d.next d e c.1
renewing_keeps d (Ok false) e c = ap (λ (x : SourceDeskValue). x.source.schema) c.1
renewing_keeps d (Err why) e c = ap (λ (x : SourceDeskValue). x.source.schema) c.2

-- ---- steps

step_keeps : (s : SourceStep) (d e : SourceState) → Does s d e → e.desk.source.schema ≡ d.desk.source.schema
step_keeps (steps.Asked session ask reply link) d e does = asking_keeps d.desk session ask.verb does.answer e.desk does.replies
step_keeps (steps.Given session reply) d e does = ap (λ (x : SourceDeskValue). x.source.schema) does.desk
step_keeps (steps.Collected session notice) d e does = ap (λ (x : SourceDeskValue). x.source.schema) does.source
step_keeps (steps.Ended session) d e does = ap (λ (x : SourceDeskValue). x.source.schema) does.source
step_keeps (steps.TookLink link) d e does = ap (λ (s : Stored). s.schema) (taking_keeps d.desk link e.desk does.taken)
step_keeps (steps.BeganEpoch link) d e does = renewing_keeps d.desk (Ok true) e.desk does.renews

pub steps_keep : (d : SourceState) (made : List SourceStep) (e : SourceState) → DoesAll d made e → e.desk.source.schema ≡ d.desk.source.schema
steps_keep d [] e all = ap (λ (x : SourceState). x.desk.source.schema) all
steps_keep d (s ∷ later) e all = steps_keep all.0 later e all.2 ∙ step_keeps s d all.0 all.1

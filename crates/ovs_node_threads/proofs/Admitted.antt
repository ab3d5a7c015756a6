-- What was sent may come of the connections.
use Rattle.std.proofs.Common.{◌≡◌, ◌++◌, ◌==◌, ℕ, Bool, true, false, cond, List, [], ◌∷◌, Option, Some, None, IfSome, refl, sym, subst}
use Rattle.ovs_types.specs.Schema.{SchemaValue}
use Rattle.ovs_links.specs.Sets.{AllOf}
use Rattle.ovs_links.specs.declared.link.Link.{Link}
use Rattle.ovs_links.proofs.ChainLemmas.{AllOf-append}
use Rattle.ovs_rows.specs.Database.{DatabaseValue}
use Rattle.ovs_upstream.specs.Hearing.{opening, resuming}
use Rattle.ovs_upstream.specs.declared.up_session.UpSession.{UpSession}
use Rattle.ovs_follow.specs.Deriving.{SendsFirst}
use Rattle.ovs_node_threads.specs.Lines.{AdmitsBytes, AdmitsCopies, AdmitsIn, session_at}

AllOf-left : (S : Link → Type 0) (xs ys : List Link) → AllOf S (xs ++ ys) → AllOf S xs
AllOf-left S [] ys a = tt
AllOf-left S (x ∷ xs) ys a = (a.0, AllOf-left S xs ys a.1)

AllOf-any : (S : Link → Type 0) → ((l : Link) → S l) → (xs : List Link) → AllOf S xs
AllOf-any S all [] = tt
AllOf-any S all (x ∷ xs) = (all x, AllOf-any S all xs)

-- what a session added to what was sent may come of the connection
pub admitted_more : (most : ℕ) (admits : SchemaValue → Link → Type 0) (up : UpSession) (remaining : Option (List ℕ)) (old new : List Link) → AdmitsIn admits up remaining
    → IfSome remaining (λ bytes. SendsFirst most up bytes old new) → AllOf (admits up.schema) old → AllOf (admits up.schema) new
admitted_more most admits up None old new lawful sends was = AllOf-any (admits up.schema) lawful new
admitted_more most admits up (Some bytes) old new lawful sends was =
    let links = lawful most sends.links sends.derived in
    let first = AllOf-left (admits up.schema) sends.first sends.rest (subst (λ ls. AllOf (admits up.schema) ls) sends.whole links) in
    subst (λ ls. AllOf (admits up.schema) ls) (sym sends.sent) (AllOf-append (admits up.schema) old sends.first was first)

-- ---- the session that is had over a connection

opened_admits : (admits : SchemaValue → Link → Type 0) (schema : SchemaValue) (asked : ℕ) (remaining : Option (List ℕ)) → AdmitsBytes admits asked remaining
    → AdmitsIn admits (opening schema asked) remaining
opened_admits admits schema asked None lawful = lawful schema
opened_admits admits schema asked (Some bytes) lawful = λ most links. lawful most schema links

resumed_admits : (admits : SchemaValue → Link → Type 0) (known : DatabaseValue) (asked : ℕ) (remaining : Option (List ℕ)) → AdmitsCopies admits asked remaining
    → AdmitsIn admits (resuming known asked) remaining
resumed_admits admits known asked None lawful = lawful known.schema
resumed_admits admits known asked (Some bytes) lawful = λ most links. lawful most known links

pub session_admits : (admits : SchemaValue → Link → Type 0) (resyncs : Bool) (database : DatabaseValue) (asked : ℕ) (remaining : Option (List ℕ))
    → AdmitsBytes admits asked remaining → (resyncs ≡ true → AdmitsCopies admits asked remaining) → AdmitsIn admits (session_at resyncs database asked) remaining
session_admits admits false database asked remaining lawful copies = opened_admits admits database.schema asked remaining lawful
session_admits admits true database asked remaining lawful copies = by (asked == 0)
  where
    by : (b : Bool) → AdmitsIn admits (cond b (opening database.schema asked) (resuming database asked)) remaining
    by true = opened_admits admits database.schema asked remaining lawful
    by false = resumed_admits admits database asked remaining (copies refl)

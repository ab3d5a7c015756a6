-- What follows of a call that returned what reading gives.
use Rattle.std.proofs.Common.{◌≡◌, ℕ, Result, Ok, Err, ap, sym, ◌∙◌}
use Rattle.std.specs.Prelude.{IfOk, ◌↔◌, ◌≢◌}
use Rattle.ovs_json.specs.FirstFault.{IsWorst}
use Rattle.ovs_json.specs.Gives.{Gives}

module _ {E X Y : Type 0} (no_memory : E) (seen : X → Y) where
  -- what holds of what is read holds of what was returned
  pub given_found : (P : Y → Type 0) (r : Result X E) (read : Result Y E) → ((y : Y) → read ≡ Ok y → P y) → Gives no_memory seen r read → IfOk r (λ x. P (seen x))
  given_found P (Ok x) read found given = found (seen x) given
  given_found P (Err e) read found given = tt

  -- what is read is what was returned
  pub given_only : (r : Result X E) (read : Result Y E) (y : Y) → read ≡ Ok y → Gives no_memory seen r read → Gives no_memory seen r (Ok y)
  given_only r read y is given = rw is at given

  -- a fault is told exactly where reading gives it
  pub given_fault : (r : Result X E) (read : Result Y E) → Gives no_memory seen r read → r ≢ Err no_memory → (e : E) → (r ≡ Err e) ↔ (read ≡ Err e)
  given_fault (Ok x) read given told e = (λ h. absurd cc, λ h. absurd (let clash = sym given ∙ h in cc))
  given_fault (Err f) read given told e =
      let is : read ≡ Err f = given (λ same. told (ap Err same)) in
      (λ h. is ∙ (let same : f ≡ e = cc in ap Err same), λ h. (let both = sym is ∙ h in let same : f ≡ e = cc in ap Err same))

  -- the worst fault that reading gives is the worst that is told
  pub given_worst : (rank : E → ℕ) (Has : E → Type 0) (r : Result X E) (read : Result Y E) → Gives no_memory seen r read → r ≢ Err no_memory → IsWorst rank Has read → IsWorst rank Has r
  given_worst rank Has (Ok x) read given told worst = rw given at worst
  given_worst rank Has (Err e) read given told worst = rw (given (λ same. told (ap Err same))) at worst

use Rattle.std.proofs.Common.{◌≡◌, ◌<◌, List, [], ◌∷◌, length, Ok, Err, refl, arith}
use Rattle.serde_json.specs.View.{items_view}
use Rattle.serde_json.specs.declared.value.Value.{Value}
use Rattle.ovs_query.specs.declared.error.QueryError.TheVariants.{ManyRequests}
use Rattle.ovs_query.specs.Faults.{Read}
use Rattle.ovs_query.specs.MonitorReading.{at_most_one}
use Rattle.ovs_query.proofs.reading.requests.at_most_one.Goals as goal

one : (vs : List Value) → length vs ≡ 1 → ◌≡◌ {A = Read (Unit {0})} (Ok tt) (at_most_one (items_view vs))
one [] e = absurd (omega (arith, e))
one (v ∷ []) e = refl
one (v ∷ w ∷ vs) e = absurd (omega (arith, e))

many : (vs : List Value) → 1 < length vs → ◌≡◌ {A = Read (Unit {0})} (Err ManyRequests) (at_most_one (items_view vs))
many [] e = absurd (omega (arith, e))
many (v ∷ []) e = absurd (omega (arith, e))
many (v ∷ w ∷ vs) e = refl

pub returns-in-len1 : goal.returns-in-len1
returns-in-len1 c = record { exact = one c.args.values.now (omega arith) }

pub returns-in_default : goal.returns-in_default
returns-in_default c = record { exact = many c.args.values.now (omega arith) }

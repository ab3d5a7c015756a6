-- Why events are refused.
use Rattle.std.specs.List.{list_all}
use Rattle.std.proofs.Common.{◌≡◌, ◌&&◌, ℕ, Bool, List, [], ◌∷◌, map, refl, ap, subst}
use Rattle.serde_json.specs.Data.{Data}
use Rattle.serde_json.specs.View.{view}
use Rattle.serde_json.specs.declared.value.Value.{Value}
use Rattle.ovs_types.specs.Schema.{SchemaValue}
use Rattle.ovs_upstream.specs.Requests.{schema_request}
use Rattle.ovs_world.specs.Carrying.{IsLarge}
use Rattle.ovs_world.specs.Sessions.{IsNotPassed}
use Rattle.ovs_world.specs.Steps.{StopsDelivery, RefusesDelivery, RefusesConnect}
use Rattle.ovs_world.specs.Worlds.{WorldValue, AreTwo}
use Rattle.ovs_world.specs.declared.error.WorldError.{WorldError}
use Rattle.ovs_world.specs.declared.error.WorldError.TheVariants.{BadCount, NoSuchNode, NoSession, IdTaken, RowIdsSpent, EpochsSpent, Full, NotReadOnly, TooLarge, NoMemory}

pub stopped : (w : WorldValue) (number bytes : ℕ) (e : WorldError) (v : WorldValue) → StopsDelivery w number bytes e v → RefusesDelivery w number bytes e v
stopped w number bytes BadCount v s = s
stopped w number bytes NoSuchNode v s = s
stopped w number bytes NoSession v s = absurd s.breaks
stopped w number bytes IdTaken v s = s
stopped w number bytes RowIdsSpent v s = s
stopped w number bytes EpochsSpent v s = s
stopped w number bytes Full v s = s
stopped w number bytes NotReadOnly v s = s
stopped w number bytes TooLarge v s = s
stopped w number bytes NoMemory v s = s

pub unopened : (w : WorldValue) (relay upstream : ℕ) (schema : SchemaValue) (e : WorldError) → AreTwo w relay upstream → schema ≡ w.source.schema → IsNotPassed (schema_request schema) e → RefusesConnect w relay upstream e
unopened w relay upstream schema TooLarge two same p = (two, subst (λ (x : SchemaValue). IsLarge (schema_request x)) same p)
unopened w relay upstream schema NoMemory two same p = two
unopened w relay upstream schema BadCount two same p = absurd p
unopened w relay upstream schema NoSuchNode two same p = absurd p
unopened w relay upstream schema NoSession two same p = absurd p
unopened w relay upstream schema IdTaken two same p = absurd p
unopened w relay upstream schema RowIdsSpent two same p = absurd p
unopened w relay upstream schema EpochsSpent two same p = absurd p
unopened w relay upstream schema Full two same p = absurd p
unopened w relay upstream schema NotReadOnly two same p = absurd p

-- what operations are, as JSON
pub all_seen : (p : Data → Bool) (vs : List Value) → list_all p (map view vs) ≡ list_all (λ v. p (view v)) vs
all_seen p [] = refl
all_seen p (v ∷ vs) = ap (λ b. p (view v) && b) (all_seen p vs)

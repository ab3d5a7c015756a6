-- The results of a transaction: one for each operation, its own up to the first that fails, and null after it.
use Rattle.std.proofs.Common.{◌≡◌, ℕ, zero, suc, ◌<◌, List, [], ◌∷◌, length, Bool, true, false, Some, refl, ap, ◌∙◌, arith}
use Rattle.std.specs.Prelude.{is_err, slice_get}
use Rattle.serde_json.specs.Data.{Data, null}
use Rattle.serde_json.specs.View.{items_of}
use Rattle.ovs_types.specs.declared.schema.Table.{Table}
use Rattle.ovs_rows.specs.Row.{Rows}
use Rattle.ovs_query.specs.Answer.{result_of, told, results, FailsAt, AreResults}

module _ (tables : List Table) (rows : Rows) where
  abbrev given : Bool → List Data → List Data
  given failed ds = results tables rows failed (items_of ds)

  abbrev fails : Data → Bool
  fails d = is_err (result_of tables rows d)

  counted : (failed : Bool) (ds : List Data) → length (given failed ds) ≡ length ds
  counted true [] = refl
  counted false [] = refl
  counted true (d ∷ ds) = ap suc (counted true ds)
  counted false (d ∷ ds) = ap suc (counted (fails d) ds)

  null_at : (ds : List Data) (k : ℕ) → k < length ds → slice_get (given true ds) k ≡ Some null
  null_at [] k within = absurd (omega (arith, within))
  null_at (d ∷ ds) zero within = refl
  null_at (d ∷ ds) (suc k) within = null_at ds k (omega (arith, within))

  own_at : (ds : List Data) (k : ℕ) (d : Data) → slice_get ds k ≡ Some d → ((j : ℕ) → j < k → FailsAt tables rows ds j → ⊥) → slice_get (given false ds) k ≡ Some (told (result_of tables rows d))
  own_at [] k d at none = absurd cc
  own_at (e ∷ ds) zero d at none = let same : e ≡ d = cc in ap (λ x. Some (told (result_of tables rows x))) same
  own_at (e ∷ ds) (suc k) d at none = by (fails e) refl (own_at ds k d at (λ j before failed. none (suc j) (omega (arith, before)) failed))
    where
      by : (b : Bool) → fails e ≡ b → slice_get (given false ds) k ≡ Some (told (result_of tables rows d)) → slice_get (given b ds) k ≡ Some (told (result_of tables rows d))
      by true failed rest = absurd (none 0 (omega arith) (e, refl, failed))
      by false fine rest = rest

  rest_at : (ds : List Data) (j k : ℕ) → j < k → k < length ds → FailsAt tables rows ds j → slice_get (given false ds) k ≡ Some null
  rest_at [] j k before within failed = absurd (omega (arith, within))
  rest_at (e ∷ ds) j zero before within failed = absurd (omega (arith, before))
  rest_at (e ∷ ds) zero (suc k) before within (d, at, failed) =
      let same : e ≡ d = cc in
      ap (λ b. slice_get (given b ds) k) (ap fails same ∙ failed) ∙ null_at ds k (omega (arith, within))
  rest_at (e ∷ ds) (suc j) (suc k) before within failed = by (fails e) (rest_at ds j k (omega (arith, before)) (omega (arith, within)) failed)
    where
      by : (b : Bool) → slice_get (given false ds) k ≡ Some null → slice_get (given b ds) k ≡ Some null
      by true rest = null_at ds k (omega (arith, within))
      by false rest = rest

  pub are_results : (ds : List Data) → AreResults tables rows ds (results tables rows false (items_of ds))
  are_results ds = record {
    count = counted false ds;
    own = own_at ds;
    rest = rest_at ds;
  }

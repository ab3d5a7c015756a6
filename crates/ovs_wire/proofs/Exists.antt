-- Each stream has frames.
use Rattle.std.proofs.Common.{◌≡◌, ℕ, ◌<◌, ◌≤◌, ◌⊎◌, ⊎_elim, inl, inr, List, [], ◌∷◌, ◌++◌, length, refl, sym, subst, arith, append_assoc}
use Rattle.std.proofs.lemmas.List.{append-nil}
use Rattle.std.proofs.lemmas.Bool.{cases_lt, cases_eq}
use Rattle.ovs_wire.specs.declared.error.FrameError.{FrameError}
use Rattle.ovs_wire.specs.declared.error.FrameError.TheVariants.{NotObject, TooDeep, TooLong}
use Rattle.ovs_wire.specs.Limits.{most_nesting}
use Rattle.ovs_wire.specs.Depth.{depth}
use Rattle.ovs_wire.specs.Frames.{IsSpace, IsUnfinished, Breaks, Ending, Rest, Fault, AreFrames}
use Rattle.ovs_wire.proofs.Cuts.{cut, fault_on, only_rest, only_fault, only_space, only_object, nothing}
use Rattle.ovs_wire.proofs.NextByte.{unfinished_more, object_whole, faulty, unfinished_now, deeper}

abbrev Found : ℕ → List ℕ → Type 0
Found most stream = (found : List (List ℕ)) × (ending : Ending) × AreFrames most stream found ending

either : {A B : Type 0} → A ⊎ (A → ⊥) → B ⊎ (B → ⊥) → (A ⊎ B) ⊎ ((A ⊎ B) → ⊥)
either (inl a) q = inl (inl a)
either (inr a) (inl b) = inl (inr b)
either (inr a) (inr b) = inr (λ r. ⊎_elim a b r)

blank : (b : ℕ) → IsSpace b ⊎ (IsSpace b → ⊥)
blank b = either (cases_eq b 32) (either (cases_eq b 9) (either (cases_eq b 13) (cases_eq b 10)))

breaks_now : {most : ℕ} (u : List ℕ) (b : ℕ) (f : FrameError) → IsUnfinished most u → Breaks most u b f → Found most (u ++ b ∷ [])
breaks_now u b f is breaks = ([], Fault f, only_fault (u ++ b ∷ []) f (faulty u b f is breaks))

first : {most : ℕ} (u : List ℕ) (b : ℕ) → IsUnfinished most u → length u ≡ 0 → (b ≡ 123 → ⊥) → Found most (u ++ b ∷ [])
first [] b is none other = ⊎_elim (λ (h : IsSpace b). ([], Rest [], only_space b h))
    (λ (n : IsSpace b → ⊥). breaks_now [] b NotObject is (refl, n, other)) (blank b)
first (a ∷ u) b is none other = absurd (omega arith)

inner : {most : ℕ} (u : List ℕ) (b : ℕ) → IsUnfinished most u → (length u ≡ 0 → b ≡ 123) → Found most (u ++ b ∷ [])
inner {most} u b is head = ⊎_elim
    (λ (deep : most_nesting < depth (u ++ b ∷ [])). breaks_now u b TooDeep is (deeper u b is deep))
    (λ (low : depth (u ++ b ∷ []) ≤ most_nesting). ⊎_elim
    (λ (short : length u < most). ⊎_elim
    (λ (more : 0 < depth (u ++ b ∷ [])). (
      [],
      Rest (u ++ b ∷ []),
      only_rest (u ++ b ∷ [])
          (unfinished_more u b is head more low short),
    ))
    (λ (none : depth (u ++ b ∷ []) ≤ 0). (
      (u ++ b ∷ []) ∷ [],
      Rest [],
      only_object (u ++ b ∷ [])
          (object_whole u b is head (omega arith) short),
    ))
    (cases_lt 0 (depth (u ++ b ∷ []))))
    (λ (long : most ≤ length u). breaks_now u b TooLong is (omega (arith, is.limits.fits), low, head))
    (cases_lt (length u) most))
    (cases_lt most_nesting (depth (u ++ b ∷ [])))

one_byte : {most : ℕ} (u : List ℕ) (b : ℕ) → IsUnfinished most u → Found most (u ++ b ∷ [])
one_byte u b is = ⊎_elim
    (λ (none : length u ≡ 0). ⊎_elim (λ (e : b ≡ 123). inner u b is (λ _. e))
    (λ (n : b ≡ 123 → ⊥). first u b is none n) (cases_eq b 123))
    (λ (some : length u ≡ 0 → ⊥). inner u b is (λ none. absurd (some none)))
    (cases_eq (length u) 0)

go_on : {most : ℕ} (x : List ℕ) (b : ℕ) (found : List (List ℕ)) (ending : Ending) → AreFrames most x found ending
    → Found most (x ++ b ∷ [])
go_on x b found (Fault f) a = (found, Fault f, fault_on x (b ∷ []) found f a)
go_on x b found (Rest u) a =
    let r = one_byte u b (unfinished_now x found u a) in
    (found ++ r.0, r.1, cut x (b ∷ []) found r.0 u r.1 a r.2)

go_through : {most : ℕ} (y x : List ℕ) → Found most x → Found most (x ++ y)
go_through {most} [] x f = subst (Found most) (sym (append-nil x)) f
go_through {most} (b ∷ y) x f = subst (Found most) (append_assoc x (b ∷ []) y)
    (go_through y (x ++ b ∷ []) (go_on x b f.0 f.1 f.2))

pub each : {most : ℕ} (stream : List ℕ) → Found most stream
each stream = go_through stream [] ([], Rest [], only_rest [] nothing)

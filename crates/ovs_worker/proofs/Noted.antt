-- One change more.
use Rattle.std.proofs.Common.{◌≡◌, ◌≢◌, ◌∙◌, refl, ℕ, List, [], ◌∷◌, ◌++◌, Option, None, ◌==◌, cond, arith}
use Rattle.ovs_worker.specs.Connections.{after_changes}

after_more : {A : Type 0} (changes : List (ℕ × Option A)) (key : ℕ) (before : Option A) (number : ℕ) (connection : Option A)
    → after_changes (changes ++ (number, connection) ∷ []) key before ≡ cond (number == key) connection (after_changes changes key before)
after_more [] key before number connection = refl
after_more ((k, c) ∷ changes) key before number connection = after_more changes key (cond (k == key) c before) number connection

-- of that number the change holds
pub changed : {A : Type 0} (old : List (ℕ × Option A)) (key : ℕ) (connection : Option A) → after_changes (old ++ (key, connection) ∷ []) key None ≡ connection
changed old key connection = after_more old key None key connection ∙ grind arith

-- of each other number what held before does
pub unchanged : {A : Type 0} (old : List (ℕ × Option A)) (key other : ℕ) (connection : Option A) → other ≢ key
    → after_changes (old ++ (key, connection) ∷ []) other None ≡ after_changes old other None
unchanged old key other connection differs = after_more old other None key connection ∙ grind (arith, differs)

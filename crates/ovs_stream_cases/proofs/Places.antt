-- Where an id stands among links.
use Rattle.std.proofs.Common.{◌≡◌, ◌≢◌, ◌<◌, ◌≤◌, ◌+◌, ◌-◌, ℕ, zero, suc, List, [], ◌∷◌, ◌++◌, length, take, drop, get_or, add-one, drop-cons, sym, ◌∙◌, ap, subst, arith, ⊎_elim}
use Rattle.std.proofs.lemmas.Bool.{cases_lt}
use Rattle.std.proofs.lemmas.List.{length-drop, take_all}
use Rattle.std.specs.List.{AllByRecursion}
use Rattle.ovs_links.specs.Chains.{start_of, head_after}
use Rattle.ovs_links.specs.declared.link.Link.{Link}
use Rattle.ovs_upstream.specs.Lawful.{IsAt}

at_suc : (from : ℕ) (ls : List Link) (k : ℕ) (l : Link) → k < length ls → l ≡ get_or ls k l → head_after from (take (suc k) ls) ≡ l.id
at_suc from [] k l below here = absurd (omega arith)
at_suc from (m ∷ ms) zero l below here = ap (λ (x : Link). x.id) (sym here)
at_suc from (m ∷ ms) (suc k) l below here = at_suc m.id ms k l (omega (arith, below)) here

head_behind : (from : ℕ) (ls : List Link) (k : ℕ) (l : Link) → k < length ls → l ≡ get_or ls k l → head_after from (take (k + 1) ls) ≡ l.id
head_behind from ls k l below here = rw add-one (at_suc from ls k l below here)

-- behind the link that has it
pub stands_behind : (ls : List Link) (k asked : ℕ) (l : Link) → k < length ls → l ≡ get_or ls k l → l.id ≡ asked → IsAt ls asked (k + 1)
stands_behind ls k asked l below here same = (omega arith, head_behind (start_of ls) ls k l below here ∙ same)

-- behind none, where it isn't where they begin
pub not_at_start : (ls : List Link) (asked : ℕ) → start_of ls ≡ 0 → asked ≢ 0 → (k : ℕ) → k ≤ 0 → head_after (start_of ls) (take k ls) ≢ asked
not_at_start ls asked start other k none =
    let at : k ≡ 0 = omega arith in
    subst (λ (j : ℕ). head_after (start_of ls) (take j ls) ≢ asked) (sym at) (λ same. other (sym same ∙ start))

pub not_behind : (ls : List Link) (i asked : ℕ) (l : Link) → i < length ls → l ≡ get_or ls i l → l.id ≢ asked
    → ((k : ℕ) → k ≤ i → head_after (start_of ls) (take k ls) ≢ asked) → (k : ℕ) → k ≤ i + 1 → head_after (start_of ls) (take k ls) ≢ asked
not_behind ls i asked l below here other before k last =
    ⊎_elim (λ (past : i < k).
    let at : k ≡ i + 1 = omega arith in
    subst (λ (j : ℕ). head_after (start_of ls) (take j ls) ≢ asked) (sym at) (λ same. other (sym (head_behind (start_of ls) ls i l below here) ∙ same)))
    (λ (within : k ≤ i). before k within) (cases_lt i k)

-- behind the first none
pub stands_first : (ls : List Link) (asked : ℕ) → start_of ls ≡ 0 → asked ≡ 0 → IsAt ls asked 0
stands_first ls asked start same = (omega arith, start ∙ sym same)

-- ---- lists that are gone through

here_next : (ls : List Link) (k : ℕ) (l : Link) → k < length ls → l ≡ get_or ls k l → drop k ls ≡ l ∷ drop (k + 1) ls
here_next ls k l below here = rw add-one (drop-cons ls k l below ∙ ap (λ (m : Link). m ∷ drop (suc k) ls) (sym here))

-- where it holds of those that are left, it does of all
pub all_next : (P : Link → Type 0) (ls : List Link) (k : ℕ) (l : Link) (Whole : Type 0) → k < length ls → l ≡ get_or ls k l → P l
    → (AllByRecursion P (drop k ls) → Whole) → AllByRecursion P (drop (k + 1) ls) → Whole
all_next P ls k l Whole below here holds whole rest = whole (subst (AllByRecursion P) (sym (here_next ls k l below here)) (holds, rest))

-- those behind the first are the rest
pub rest_of : (ls : List Link) (k : ℕ) → take (length ls - k) (drop k ls) ≡ drop k ls
rest_of ls k = take_all (length ls - k) (drop k ls) (omega (arith, length-drop k ls))

pub last_of : {X : Type 0} (P : X → Type 0) (xs : List X) (x : X) → AllByRecursion P (xs ++ x ∷ []) → P x
last_of P [] x all = all.0
last_of P (y ∷ ys) x all = last_of P ys x all.1

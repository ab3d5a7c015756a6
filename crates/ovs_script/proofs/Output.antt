-- What is written of an output that depends on something that may be unknown, as a text.
use Rattle.std.proofs.Common.{◌≡◌, ◌≢◌, ℕ, Option, Some, None, List, [], ◌++◌, refl, sym, ap, ◌∙◌, IfSome, Result, Ok, Err, IfErr}
use Rattle.std.specs.Io.KnownBytes.{Appends, Keeps}
use Rattle.std.proofs.KnownBytes.{Appends-kept}
use Rattle.ovs_script.specs.declared.script_error.ScriptError.{ScriptError}
use Rattle.ovs_script.specs.declared.script_error.ScriptError.TheVariants.{ReadFault, WriteFault, TurnsSpent, NoMemory}
use Rattle.ovs_script.specs.Sending.{AppendsAllBut, AppendsBeginning}
use Rattle.ovs_script.specs.Said.{TellsSaid}
use Rattle.ovs_script.proofs.Sent.{sent_then, sent_whole, beginning_sent}

nothing : {A : Type 0} (of : Option A) → IfSome of (λ t. Unit {0})
nothing None = tt
nothing (Some t) = tt

module _ {A : Type 0} (before now : Option (List ℕ)) (waited waiting : List ℕ) where
  -- words are said behind all of the answers, and of both a beginning is sent
  pub begun_behind : (of : Option A) (new : Option (List ℕ)) (none words : List ℕ) (IsAll IsSoFar : A → List ℕ → Type 0)
      → ((t : A) (said : List ℕ) → IsAll t said → IsSoFar t (said ++ words))
      → IfSome of (λ t. (said : List ℕ) × IsAll t said × AppendsAllBut before now (waited ++ said) waiting)
      → (others : List ℕ) × AppendsAllBut now new (waiting ++ words) (none ++ others)
      → IfSome of (λ t. (output : List ℕ) × IsSoFar t output × (others : List ℕ) × AppendsAllBut before new (waited ++ output) (none ++ others))
  begun_behind None new none words IsAll IsSoFar grows sent more = tt
  begun_behind (Some t) new none words IsAll IsSoFar grows (said, all, sent) more =
      (said ++ words, grows t said all, more.0, sent_then before now new waited said words waiting (none ++ more.0) sent more.1)

  -- all of both is sent
  pub whole_behind : (of : Option A) (new : Option (List ℕ)) (words : List ℕ) (IsAll IsWhole : A → List ℕ → Type 0)
      → ((t : A) (said : List ℕ) → IsAll t said → IsWhole t (said ++ words))
      → IfSome of (λ t. (said : List ℕ) × IsAll t said × AppendsAllBut before now (waited ++ said) waiting) → Appends now new (waiting ++ words)
      → IfSome of (λ t. (output : List ℕ) × IsWhole t output × Appends before new (waited ++ output))
  whole_behind None new words IsAll IsWhole grows sent more = tt
  whole_behind (Some t) new words IsAll IsWhole grows (said, all, sent) more =
      (said ++ words, grows t said all, sent_whole before now new waited said words waiting sent more)

  kept_said : (of : Option A) (new : Option (List ℕ)) (same : List ℕ) (IsAll AtMemory : A → List ℕ → Type 0) → ((t : A) (said : List ℕ) → IsAll t said → AtMemory t said)
      → IfSome of (λ t. (said : List ℕ) × IsAll t said × AppendsAllBut before now (waited ++ said) waiting) → Keeps now new → same ≡ waiting
      → IfSome of (λ t. (told : List ℕ) × AtMemory t told × AppendsAllBut before new (waited ++ told) same)
  kept_said None new same IsAll AtMemory first sent keeps is = tt
  kept_said (Some t) new same IsAll AtMemory first (said, all, sent) keeps is =
      (said, first t said all, (sent.0, Appends-kept before now new sent.0 sent.1 keeps, sent.2 ∙ ap (λ l. sent.0 ++ l) (sym is)))

  -- all was said, and then the run breaks off; for want of memory, with nothing written
  pub said_behind : {T : Type 0} (of : Option A) (r : Result T ScriptError) (new : Option (List ℕ)) (same : List ℕ) (IsAll AtRead AtMemory : A → List ℕ → Type 0)
      → r ≢ Err ReadFault → (r ≡ Err NoMemory → Keeps now new × (same ≡ waiting)) → ((t : A) (said : List ℕ) → IsAll t said → AtMemory t said)
      → IfSome of (λ t. (said : List ℕ) × IsAll t said × AppendsAllBut before now (waited ++ said) waiting)
      → IfErr r (λ fault. IfSome of (λ t. TellsSaid fault (AtRead t) (AtMemory t) before new waited same))
  said_behind of (Ok x) new same IsAll AtRead AtMemory not_read unwritten first sent = tt
  said_behind of (Err ReadFault) new same IsAll AtRead AtMemory not_read unwritten first sent = absurd (not_read refl)
  said_behind of (Err NoMemory) new same IsAll AtRead AtMemory not_read unwritten first sent =
      kept_said of new same IsAll AtMemory first sent (unwritten refl).0 (unwritten refl).1
  said_behind of (Err WriteFault) new same IsAll AtRead AtMemory not_read unwritten first sent = nothing of
  said_behind of (Err TurnsSpent) new same IsAll AtRead AtMemory not_read unwritten first sent = nothing of

-- ---- the end of a run for a fault

module _ {A : Type 0} (before now new : Option (List ℕ)) (waiting : List ℕ) where
  -- what waited is written, or a beginning of it
  pub gave_up : (of : Option A) (IsSoFar : A → List ℕ → Type 0)
      → IfSome of (λ t. (output : List ℕ) × IsSoFar t output × (others : List ℕ) × AppendsAllBut before now ([] ++ output) (waiting ++ others))
      → AppendsBeginning now new waiting → IfSome of (λ t. (output : List ℕ) × IsSoFar t output × AppendsBeginning before new output)
  gave_up None IsSoFar so_far sent = tt
  gave_up (Some t) IsSoFar (output, is, others, old) sent = (output, is, beginning_sent before now new output waiting others old sent)

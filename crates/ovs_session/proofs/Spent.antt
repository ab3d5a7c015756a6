-- What is spent, one piece after another.
use Rattle.std.proofs.Common.{◌⊎◌, inl, inr, ◌≡◌, ℕ, ◌+◌, ◌≤◌, min, arith, ap, sym, subst}
use Rattle.ovs_session.specs.declared.counts.Counts.{Counts}
use Rattle.ovs_session.specs.Counting.{last, HasCalled, HasWritten, SpendsAtMost}
use Rattle.ovs_session.specs.Serving.{SessionValue, Holds}

both : (a b c k l : ℕ) → b ≤ a + k → c ≤ b + l → c ≤ a + (k + l)
both a b c k l p q = omega arith

at_most_on : (a k m : ℕ) → min (a + k) m ≤ a + k
at_most_on a k m = omega arith

at_most_same : (a k : ℕ) → a ≤ a + k
at_most_same a k = omega arith

pub spends_more : (t m u n : ℕ) (a b c : Counts) → SpendsAtMost t m a b → SpendsAtMost u n b c → SpendsAtMost (t + u) (m + n) a c
spends_more t m u n a b c p q = (both a.turns b.turns c.turns t u p.0 q.0, both a.messages b.messages c.messages m n p.1 q.1)

pub spends_nothing : (t m : ℕ) (a b : Counts) → b ≡ a → SpendsAtMost t m a b
spends_nothing t m a b e = subst (λ (c : Counts). SpendsAtMost t m a c) (sym e) (at_most_same a.turns t, at_most_same a.messages m)

pub spends_a_call : (a b : Counts) → HasCalled a b → SpendsAtMost 1 0 a b
spends_a_call a b (inl e) = spends_nothing 1 0 a b e
spends_a_call a b (inr e) = subst (λ (c : Counts). SpendsAtMost 1 0 a c) (sym e) (at_most_on a.turns 1 last, at_most_same a.messages 0)

pub spends_a_write : (n : ℕ) (a b : Counts) → HasWritten n a b → SpendsAtMost 1 0 a b
spends_a_write n a b w = (
  subst (λ t. t ≤ a.turns + 1) (sym w.turns) (at_most_on a.turns 1 last),
  subst (λ m. m ≤ a.messages + 0) (sym w.messages) (at_most_same a.messages 0),
)

pub spends_a_message : {C : Type 0} (a b : SessionValue C) → (b ≡ a) ⊎ Holds a b → SpendsAtMost 0 1 a.counts b.counts
spends_a_message a b (inl e) = spends_nothing 0 1 a.counts b.counts (ap (λ z. z.counts) e)
spends_a_message a b (inr h) = subst (λ (c : Counts). SpendsAtMost 0 1 a.counts c) (sym (ap (λ z. z.counts) h.now))
    (at_most_same a.counts.turns 0, at_most_on a.counts.messages 1 last)

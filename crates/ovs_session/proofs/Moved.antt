-- Devices, one piece after another.
use Rattle.std.proofs.Common.{◌⊎◌, inl, inr, ◌≡◌, ℕ, ◌≤◌, arith, List, [], ◌++◌, length, length-append, Option, Some, None, Bool, true, false, ◌||◌, ap, sym, ◌∙◌, append_assoc, subst, refl}
use Rattle.std.specs.Io.KnownBytes.{Consumes, Appends, IsAtEnd}
use Rattle.ovs_wire.specs.Framing.{Framing, Feeds}
use Rattle.ovs_session.specs.declared.ended.Ended.{Ended}
use Rattle.ovs_session.specs.Counting.{HasCalled, HasWritten}
use Rattle.ovs_session.specs.Moving.{Moved}
use Rattle.ovs_session.specs.Serving.{SessionValue, Worked}
use Rattle.ovs_session.proofs.Served.{append_nil, served_more, served_read, served_end, served_fed, served_wrote, served_noted, bounded_more, worked_still}

pub appends_more : (a b c : Option (List ℕ)) (xs ys : List ℕ) → Appends a b xs → Appends b c ys → Appends a c (xs ++ ys)
appends_more None b c xs ys p q = tt
appends_more (Some a) None c xs ys p q = absurd p
appends_more (Some a) (Some b) None xs ys p q = absurd q
appends_more (Some a) (Some b) (Some c) xs ys p q = q ∙ ap (λ l. l ++ ys) p ∙ append_assoc a xs ys

pub consumes_more : (a b c : Option (List ℕ)) (xs ys : List ℕ) → Consumes a b xs → Consumes b c ys → Consumes a c (xs ++ ys)
consumes_more None b c xs ys p q = tt
consumes_more (Some a) None c xs ys p q = absurd p
consumes_more (Some a) (Some b) None xs ys p q = absurd q
consumes_more (Some a) (Some b) (Some c) xs ys p q = p ∙ ap (λ (l : List ℕ). xs ++ l) q ∙ sym (append_assoc xs ys c)

pub appends_none : (a : Option (List ℕ)) → Appends a a []
appends_none None = tt
appends_none (Some a) = sym (append_nil a)

pub consumes_none : (a : Option (List ℕ)) → Consumes a a []
consumes_none None = tt
consumes_none (Some a) = refl

ends_more : (j k : Option (List ℕ)) (a b c : Bool) → (b ≡ true → (a ≡ true) ⊎ IsAtEnd j) → (c ≡ true → (b ≡ true) ⊎ IsAtEnd k)
    → (b ≡ true → (c ≡ true) × (k ≡ j)) → c ≡ true → (a ≡ true) ⊎ IsAtEnd k
ends_more j k a b c p q stays e = elim (q e) [
  | inl was ↦ elim (p was) [ inl first ↦ inl first | inr at_end ↦ inr (subst IsAtEnd (sym ((stays was).1)) at_end) ]
  | inr at_end ↦ inr at_end
]

no_longer : (a w r : List ℕ) → a ≡ w ++ r → length r ≤ length a
no_longer a w r e = let n = ap length e ∙ length-append w r in omega arith

le_same : (a : List ℕ) → length a ≤ length a
le_same a = omega arith

abbrev OnlyTrue : Bool → Type 0
OnlyTrue true = Unit {0}
OnlyTrue false = ⊥

true_false : true ≡ false → ⊥
true_false e = subst OnlyTrue e tt

or_true : (b e : Bool) → (b || e) ≡ true → (b ≡ true) ⊎ (e ≡ true)
or_true true e p = inl refl
or_true false e p = inr p

or_stays : (b e : Bool) → b ≡ true → (b || e) ≡ true
or_stays b e p = ap (λ x. x || e) p

module _ {C : Type 0} (answers : C → List ℕ → List ℕ → C → Type 0) (tells : C → List ℕ → C → Type 0) (limit : ℕ) where
  pub moved_more : (i j k o p q : Option (List ℕ)) (a b c : SessionValue C) → Moved answers tells limit i j o p a b → Moved answers tells limit j k p q b c
      → Moved answers tells limit i k o q a c
  moved_more i j k o p q a b c m n = record {
    bytes_read = m.bytes_read ++ n.bytes_read;
    bytes_written = m.bytes_written ++ n.bytes_written;
    reads = consumes_more i j k m.bytes_read n.bytes_read m.reads n.reads;
    writes = appends_more o p q m.bytes_written n.bytes_written m.writes n.writes;
    served = served_more answers tells a b c m.bytes_read n.bytes_read m.bytes_written n.bytes_written m.served n.served;
    bounded = bounded_more answers tells limit a b c m.bounded n.bounded;
    ends = ends_more j k a.is_at_end b.is_at_end c.is_at_end m.ends n.ends n.stays;
    stays = λ e. let first = m.stays e in let then = n.stays first.0 in (then.0, then.1 ∙ first.1);
  }

  pub moved_worked : (i o : Option (List ℕ)) (a b : SessionValue C) → Worked answers tells limit a b → Moved answers tells limit i i o o a b
  moved_worked i o a b w = record {
    bytes_read = [];
    bytes_written = [];
    reads = consumes_none i;
    writes = appends_none o;
    served = w.served;
    bounded = w.bounded;
    ends = λ e. inl (sym w.same_end ∙ e);
    stays = λ e. (w.same_end ∙ e, refl);
  }

  -- a turn begins with what needs no device
  pub moved_after : (i j o p : Option (List ℕ)) (a b c : SessionValue C) → Worked answers tells limit a b → Moved answers tells limit i j o p b c
      → Moved answers tells limit i j o p a c
  moved_after i j o p a b c w m = moved_more i i j o o p a b c (moved_worked i o a b w) m

  -- the same, where nothing is called then
  pub moved_still : (i o : Option (List ℕ)) (a : SessionValue C) → Moved answers tells limit i i o o a a
  moved_still i o a = moved_worked i o a a (worked_still answers tells limit a a refl)

  -- a write
  pub moved_wrote : (i o p : Option (List ℕ)) (a b : SessionValue C)
      → (bytes_written rest : List ℕ) × Appends o p bytes_written × (a.unsent ≡ bytes_written ++ rest) × (b ≡ record a { unsent = rest; counts = b.counts })
      × HasWritten (length bytes_written) a.counts b.counts
      → Moved answers tells limit i i o p a b
  moved_wrote i o p a b w = record {
    bytes_read = [];
    bytes_written = w.0;
    reads = consumes_none i;
    writes = w.2;
    served = served_wrote answers tells a b w.0 w.1 w.3 w.5 w.4;
    bounded = inl (subst (λ (l : List ℕ). length l ≤ length a.unsent) (sym (ap (λ z. z.unsent) w.4)) (no_longer a.unsent w.0 w.1 w.3));
    ends = λ e. inl (sym (ap (λ z. z.is_at_end) w.4) ∙ e);
    stays = λ e. (ap (λ z. z.is_at_end) w.4 ∙ e, refl);
  }

  -- a read before the end
  pub moved_read : (i j o : Option (List ℕ)) (a b : SessionValue C) → a.is_at_end ≡ false → HasCalled a.counts b.counts
      → (bytes_read : List ℕ) × Consumes i j bytes_read × (b ≡ record a { unfed = a.unfed ++ bytes_read; counts = b.counts })
      → Moved answers tells limit i j o o a b
  moved_read i j o a b was counted r = record {
    bytes_read = r.0;
    bytes_written = [];
    reads = r.1;
    writes = appends_none o;
    served = served_read answers tells a b r.0 counted r.2;
    bounded = inl (subst (λ (l : List ℕ). length l ≤ length a.unsent) (sym (ap (λ z. z.unsent) r.2)) (le_same a.unsent));
    ends = λ e. inl (sym (ap (λ z. z.is_at_end) r.2) ∙ e);
    stays = λ e. absurd (true_false (sym e ∙ was));
  }

  -- the end is noted, where a read found it
  pub moved_end : (j o : Option (List ℕ)) (b c : SessionValue C) (is_end : Bool) → (is_end ≡ true → IsAtEnd j)
      → c ≡ record b { is_at_end = b.is_at_end || is_end } → Moved answers tells limit j j o o b c
  moved_end j o b c is_end found noted = record {
    bytes_read = [];
    bytes_written = [];
    reads = consumes_none j;
    writes = appends_none o;
    served = served_end answers tells b c (b.is_at_end || is_end) noted;
    bounded = inl (subst (λ (l : List ℕ). length l ≤ length b.unsent) (sym (ap (λ z. z.unsent) noted)) (le_same b.unsent));
    ends = λ e. elim (or_true b.is_at_end is_end (sym (ap (λ z. z.is_at_end) noted) ∙ e)) [ inl was ↦ inl was | inr now ↦ inr (found now) ];
    stays = λ e. (ap (λ z. z.is_at_end) noted ∙ or_stays b.is_at_end is_end e, refl);
  }

  -- what was read is fed
  pub moved_fed : (i o : Option (List ℕ)) (a b : SessionValue C) → (f : Framing) × Feeds a.framing a.unfed f × (b ≡ record a { unfed = []; framing = f })
      → Moved answers tells limit i i o o a b
  moved_fed i o a b h = moved_worked i o a b (record {
    served = served_fed answers tells a b h;
    bounded = inl (subst (λ (l : List ℕ). length l ≤ length a.unsent) (sym (ap (λ z. z.unsent) h.2)) (le_same a.unsent));
    same_end = ap (λ z. z.is_at_end) h.2;
    same_turns = ap (λ z. z.counts.turns) h.2;
  })

  -- why it has ended is noted
  pub moved_noted : (i o : Option (List ℕ)) (a b : SessionValue C) (e : Option Ended) → b ≡ record a { ended = e } → Moved answers tells limit i i o o a b
  moved_noted i o a b e is = moved_worked i o a b (record {
    served = served_noted answers tells a b e is;
    bounded = inl (subst (λ (l : List ℕ). length l ≤ length a.unsent) (sym (ap (λ z. z.unsent) is)) (le_same a.unsent));
    same_end = ap (λ z. z.is_at_end) is;
    same_turns = ap (λ z. z.counts.turns) is;
  })

  -- where nothing has happened, what is the same at the beginning
  pub moved_from : (i j o p : Option (List ℕ)) (a b : SessionValue C) → i ≡ j → o ≡ p → a ≡ b → Moved answers tells limit i j o p a b
  moved_from i j o p a b x y z =
      subst (λ (k : Option (List ℕ)). Moved answers tells limit k j o p a b) (sym x)
      (subst (λ (k : Option (List ℕ)). Moved answers tells limit j j k p a b) (sym y) (moved_worked j p a b (worked_still answers tells limit a b (sym z))))

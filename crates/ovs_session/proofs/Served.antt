-- One piece of serving after another.
use Rattle.std.proofs.Common.{◌⊎◌, inl, inr, ◌≡◌, ℕ, ◌+◌, ◌<◌, ◌≤◌, arith, List, [], ◌∷◌, ◌++◌, length, length-append, Option, Some, None, Bool, ap, sym, ◌∙◌, append_assoc, subst, refl}
use Rattle.ovs_wire.specs.Framing.{Framing, Call, Feed, Take, Leads, Feeds, Takes, fed, taken}
use Rattle.ovs_session.specs.declared.counts.Counts.{Counts}
use Rattle.ovs_session.specs.declared.ended.Ended.{Ended}
use Rattle.ovs_session.specs.Counting.{HasCalled, HasWritten, IsAfter, count_on, with_a_message}
use Rattle.ovs_session.specs.Serving.{SessionValue, Holds, Said, Answered, Told, messages, text, holding, Runs, Served, IsBounded, Worked}
use Rattle.ovs_session.proofs.Counted.{after_both, after_counting}

pub append_nil : {A : Type 0} (xs : List A) → xs ++ [] ≡ xs
append_nil [] = refl
append_nil (x ∷ xs) = ap (λ l. x ∷ l) (append_nil xs)

glue : {A : Type 0} (a x f b y g c : List A) → a ++ x ≡ f ++ b → b ++ y ≡ g ++ c → a ++ (x ++ y) ≡ (f ++ g) ++ c
glue a x f b y g c p q =
    sym (append_assoc a x y) ∙ ap (λ l. l ++ y) p ∙ append_assoc f b y ∙ ap (λ l. f ++ l) q ∙ sym (append_assoc f g c)

leads_more : (cs ds : List Call) (a b c : Framing) → Leads cs a b → Leads ds b c → Leads (cs ++ ds) a c
leads_more [] ds a b c p q = subst (λ (f : Framing). Leads ds f c) p q
leads_more (x ∷ cs) ds a b c p q = (p.0, p.1, leads_more cs ds p.0 b c p.2 q)

fed_more : (cs ds : List Call) → fed (cs ++ ds) ≡ fed cs ++ fed ds
fed_more [] ds = refl
fed_more (Feed x ∷ cs) ds = ap (λ (l : List ℕ). x ++ l) (fed_more cs ds) ∙ sym (append_assoc x (fed cs) (fed ds))
fed_more (Take x ∷ cs) ds = fed_more cs ds

taken_more : (cs ds : List Call) → taken (cs ++ ds) ≡ taken cs ++ taken ds
taken_more [] ds = refl
taken_more (Feed x ∷ cs) ds = taken_more cs ds
taken_more (Take x ∷ cs) ds = ap (λ (l : List (List ℕ)). x ∷ l) (taken_more cs ds)

messages_more : (s t : List Said) → messages (s ++ t) ≡ messages s ++ messages t
messages_more [] t = refl
messages_more (Answered m x ∷ s) t = ap (λ (l : List (List ℕ)). m ∷ l) (messages_more s t)
messages_more (Told x ∷ s) t = messages_more s t

text_more : (s t : List Said) → text (s ++ t) ≡ text s ++ text t
text_more [] t = refl
text_more (Answered m x ∷ s) t = ap (λ (l : List ℕ). x ++ l) (text_more s t) ∙ sym (append_assoc x (text s) (text t))
text_more (Told x ∷ s) t = ap (λ (l : List ℕ). x ++ l) (text_more s t) ∙ sym (append_assoc x (text s) (text t))

le_refl : (n : ℕ) → n ≤ n
le_refl n = omega arith

le_both : (a b c : ℕ) → b ≤ a → c ≤ b → c ≤ a
le_both a b c p q = omega arith

lt_below : (a b k : ℕ) → b ≤ a → a < k → b < k
lt_below a b k p q = omega arith

-- fields that don't count here may be others
pub changed : {C : Type 0} (x : List ℕ) (f : Framing) (h j : Option (List ℕ)) (c d : C) (u w : List ℕ) (a : Bool) (n : Counts) (e : Option Ended)
    → h ≡ j → c ≡ d → u ≡ w
    → ◌≡◌ {A = SessionValue C}
    (record { unfed = x; framing = f; held = h; state = c; unsent = u; is_at_end = a; counts = n; ended = e })
    (record { unfed = x; framing = f; held = j; state = d; unsent = w; is_at_end = a; counts = n; ended = e })
changed x f h j c d u w a n e p q r =
    λ i. record { unfed = x; framing = f; held = p i; state = q i; unsent = r i; is_at_end = a; counts = n; ended = e }

-- the framer was fed all that was read
pub fed_all : {C : Type 0} (v a : SessionValue C) (u : List ℕ) (f : Framing) → v ≡ a → u ≡ []
    → ◌≡◌ {A = SessionValue C} (record v { unfed = u; framing = f }) (record a { unfed = []; framing = f })
fed_all v a u f p q = λ i. record (p i) { unfed = q i; framing = f }

-- a message was taken and is held
pub now_holds : {C : Type 0} (v a : SessionValue C) (m : List ℕ) (f : Framing) (n : Counts) → v ≡ a → v.held ≡ None → Takes v.framing m f
    → n ≡ with_a_message v.counts → Holds a (record v { framing = f; held = Some m; counts = n })
now_holds v a m f n is held takes e = subst (λ (z : SessionValue _). Holds z (record v { framing = f; held = Some m; counts = n })) is
    (record { message = m; framing = f; takes = takes; was = held; now = λ i. record v { framing = f; held = Some m; counts = e i } })

module _ {C : Type 0} (answers : C → List ℕ → List ℕ → C → Type 0) (tells : C → List ℕ → C → Type 0) where
  runs_more : (s t : List Said) (a b c : C) → Runs answers tells s a b → Runs answers tells t b c → Runs answers tells (s ++ t) a c
  runs_more [] t a b c p q = subst (λ (x : C). Runs answers tells t x c) p q
  runs_more (x ∷ s) t a b c p q = (p.0, p.1, runs_more s t p.0 b c p.2 q)

  pub served_more : (a b c : SessionValue C) (x y u v : List ℕ) → Served answers tells a x u b → Served answers tells b y v c
      → Served answers tells a (x ++ y) (u ++ v) c
  served_more a b c x y u v p q = record {
    calls = p.calls ++ q.calls;
    frames = leads_more p.calls q.calls a.framing b.framing c.framing p.frames q.frames;
    read = glue a.unfed x (fed p.calls) b.unfed y (fed q.calls) c.unfed p.read q.read ∙ ap (λ (l : List ℕ). l ++ c.unfed) (sym (fed_more p.calls q.calls));
    said = p.said ++ q.said;
    runs = runs_more p.said q.said a.state b.state c.state p.runs q.runs;
    answered = ap (λ (l : List (List ℕ)). holding a.held ++ l) (taken_more p.calls q.calls)
        ∙ glue (holding a.held) (taken p.calls) (messages p.said) (holding b.held) (taken q.calls) (messages q.said) (holding c.held) p.answered q.answered
        ∙ ap (λ (l : List (List ℕ)). l ++ holding c.held) (sym (messages_more p.said q.said));
    written = ap (λ (l : List ℕ). a.unsent ++ l) (text_more p.said q.said) ∙ glue a.unsent (text p.said) u b.unsent (text q.said) v c.unsent p.written q.written;
    messages_counted = subst (λ (l : List (List ℕ)). IsAfter c.counts.messages a.counts.messages (length l)) (sym (taken_more p.calls q.calls))
        (after_both a.counts.messages b.counts.messages c.counts.messages (taken p.calls) (taken q.calls) p.messages_counted q.messages_counted);
    bytes_counted = after_both a.counts.bytes_out b.counts.bytes_out c.counts.bytes_out u v p.bytes_counted q.bytes_counted;
  }

  -- and then a piece that reads and writes nothing
  pub served_then : (a b c : SessionValue C) (x : List ℕ) → Served answers tells a x [] b → Served answers tells b [] [] c
      → Served answers tells a x [] c
  served_then a b c x p q = subst (λ (l : List ℕ). Served answers tells a l [] c) (append_nil x) (served_more a b c x [] [] [] p q)

  pub served_still : (a : SessionValue C) → Served answers tells a [] [] a
  served_still a = record {
    calls = [];
    frames = refl;
    read = append_nil a.unfed;
    said = [];
    runs = refl;
    answered = append_nil (holding a.held);
    written = append_nil a.unsent;
    messages_counted = refl;
    bytes_counted = refl;
  }

  called : (a b : Counts) → HasCalled a b → (b.messages ≡ a.messages) × (b.bytes_out ≡ a.bytes_out)
  called a b (inl e) = (ap (λ c. c.messages) e, ap (λ c. c.bytes_out) e)
  called a b (inr e) = (ap (λ c. c.messages) e, ap (λ c. c.bytes_out) e)

  pub served_read : (a b : SessionValue C) (x : List ℕ) → HasCalled a.counts b.counts → b ≡ record a { unfed = a.unfed ++ x; counts = b.counts }
      → Served answers tells a x [] b
  served_read a b x n e = let same = called a.counts b.counts n in
      subst (λ (z : SessionValue C). Served answers tells a x [] z) (sym e) (record {
        calls = [];
        frames = refl;
        read = refl;
        said = [];
        runs = refl;
        answered = append_nil (holding a.held);
        written = append_nil a.unsent;
        messages_counted = ap (λ n. count_on n 0) same.0;
        bytes_counted = ap (λ n. count_on n 0) same.1;
      })

  pub served_end : (a b : SessionValue C) (e : Bool) → b ≡ record a { is_at_end = e } → Served answers tells a [] [] b
  served_end a b e is = subst (λ (z : SessionValue C). Served answers tells a [] [] z) (sym is) (record {
    calls = [];
    frames = refl;
    read = append_nil a.unfed;
    said = [];
    runs = refl;
    answered = append_nil (holding a.held);
    written = append_nil a.unsent;
    messages_counted = refl;
    bytes_counted = refl;
  })

  pub served_noted : (a b : SessionValue C) (e : Option Ended) → b ≡ record a { ended = e } → Served answers tells a [] [] b
  served_noted a b e is = subst (λ (z : SessionValue C). Served answers tells a [] [] z) (sym is) (record {
    calls = [];
    frames = refl;
    read = append_nil a.unfed;
    said = [];
    runs = refl;
    answered = append_nil (holding a.held);
    written = append_nil a.unsent;
    messages_counted = refl;
    bytes_counted = refl;
  })

  pub served_fed : (a b : SessionValue C) → (f : Framing) × Feeds a.framing a.unfed f × (b ≡ record a { unfed = []; framing = f })
      → Served answers tells a [] [] b
  served_fed a b h = subst (λ (z : SessionValue C). Served answers tells a [] [] z) (sym h.2) (record {
    calls = Feed a.unfed ∷ [];
    frames = (h.0, h.1, refl);
    read = sym (append_nil (a.unfed ++ []));
    said = [];
    runs = refl;
    answered = append_nil (holding a.held);
    written = append_nil a.unsent;
    messages_counted = refl;
    bytes_counted = refl;
  })

  pub served_held : (a b : SessionValue C) → Holds a b → Served answers tells a [] [] b
  served_held a b h = subst (λ (z : SessionValue C). Served answers tells a [] [] z) (sym h.now) (record {
    calls = Take h.message ∷ [];
    frames = (h.framing, h.takes, refl);
    read = append_nil a.unfed;
    said = [];
    runs = refl;
    answered = ap (λ held. holding held ++ h.message ∷ []) h.was;
    written = append_nil a.unsent;
    messages_counted = after_counting a.counts.messages 1;
    bytes_counted = refl;
  })

  pub served_answered : (a b : SessionValue C) (m t : List ℕ) (c : C) → a.held ≡ Some m → answers a.state m t c
      → b ≡ record a { held = None; state = c; unsent = a.unsent ++ t } → Served answers tells a [] [] b
  served_answered a b m t c held p e = subst (λ (z : SessionValue C). Served answers tells a [] [] z) (sym e) (record {
    calls = [];
    frames = refl;
    read = append_nil a.unfed;
    said = Answered m t ∷ [];
    runs = (c, p, refl);
    answered = ap (λ h. holding h ++ []) held;
    written = ap (λ (l : List ℕ). a.unsent ++ l) (append_nil t);
    messages_counted = refl;
    bytes_counted = refl;
  })

  pub served_told : (a b : SessionValue C) (t : List ℕ) (c : C) → tells a.state t c → b ≡ record a { state = c; unsent = a.unsent ++ t }
      → Served answers tells a [] [] b
  served_told a b t c p e = subst (λ (z : SessionValue C). Served answers tells a [] [] z) (sym e) (record {
    calls = [];
    frames = refl;
    read = append_nil a.unfed;
    said = Told t ∷ [];
    runs = (c, p, refl);
    answered = append_nil (holding a.held);
    written = ap (λ (l : List ℕ). a.unsent ++ l) (append_nil t);
    messages_counted = refl;
    bytes_counted = refl;
  })

  pub served_wrote : (a b : SessionValue C) (w rest : List ℕ) → a.unsent ≡ w ++ rest → HasWritten (length w) a.counts b.counts
      → b ≡ record a { unsent = rest; counts = b.counts } → Served answers tells a [] w b
  served_wrote a b w rest p n e = subst (λ (z : SessionValue C). Served answers tells a [] w z) (sym e) (record {
    calls = [];
    frames = refl;
    read = append_nil a.unfed;
    said = [];
    runs = refl;
    answered = append_nil (holding a.held);
    written = append_nil a.unsent ∙ p;
    messages_counted = ap (λ n. count_on n 0) n.messages;
    bytes_counted = n.bytes_out;
  })

  -- the bound, one piece after another
  pub bounded_more : (limit : ℕ) (a b c : SessionValue C) → IsBounded answers tells limit a b → IsBounded answers tells limit b c
      → IsBounded answers tells limit a c
  bounded_more limit a b c (inl p) (inl q) = inl (le_both (length a.unsent) (length b.unsent) (length c.unsent) p q)
  bounded_more limit a b c (inr p) (inl q) = inr (p.0, p.1, lt_below (length b.unsent) (length c.unsent) (limit + length p.0) q p.2)
  bounded_more limit a b c p (inr q) = inr q

  same_unsent : (limit : ℕ) (a b : SessionValue C) → b.unsent ≡ a.unsent → IsBounded answers tells limit a b
  same_unsent limit a b e = inl (subst (λ (l : List ℕ). length l ≤ length a.unsent) (sym e) (le_refl (length a.unsent)))

  below_and : (limit n : ℕ) (u t : List ℕ) → length u < limit → length (u ++ t) < limit + length t
  below_and limit n u t p = let e = length-append u t in omega arith

  pub worked_more : (limit : ℕ) (a b c : SessionValue C) → Worked answers tells limit a b → Worked answers tells limit b c
      → Worked answers tells limit a c
  worked_more limit a b c p q = record {
    served = served_more a b c [] [] [] [] p.served q.served;
    bounded = bounded_more limit a b c p.bounded q.bounded;
    same_end = q.same_end ∙ p.same_end;
    same_turns = q.same_turns ∙ p.same_turns;
  }

  pub worked_still : (limit : ℕ) (a b : SessionValue C) → b ≡ a → Worked answers tells limit a b
  worked_still limit a b e = subst (λ (z : SessionValue C). Worked answers tells limit a z) (sym e)
      (record { served = served_still a; bounded = inl (le_refl (length a.unsent)); same_end = refl; same_turns = refl })

  pub worked_hold : (limit : ℕ) (a b : SessionValue C) → (b ≡ a) ⊎ Holds a b → Worked answers tells limit a b
  worked_hold limit a b (inl e) = worked_still limit a b e
  worked_hold limit a b (inr h) = record {
    served = served_held a b h;
    bounded = same_unsent limit a b (ap (λ z. z.unsent) h.now);
    same_end = ap (λ z. z.is_at_end) h.now;
    same_turns = ap (λ z. z.counts.turns) h.now;
  }

  pub answered_at : (limit : ℕ) (v a b : SessionValue C) (m t : List ℕ) (c : C) → v ≡ a → v.held ≡ Some m → answers v.state m t c
      → b ≡ record v { held = None; state = c; unsent = v.unsent ++ t } → length a.unsent < limit → Worked answers tells limit a b
  answered_at limit v a b m t c is held p e below = subst (λ (z : SessionValue C). length z.unsent < limit → Worked answers tells limit z b) is
      (λ short. record {
        served = served_answered v b m t c held p e;
        bounded = inr (t, (Answered m t, v.state, c, p, append_nil t), subst (λ (l : List ℕ). length l < limit + length t) (ap (λ z. z.unsent) (sym e)) (below_and limit 0 v.unsent t short));
        same_end = ap (λ z. z.is_at_end) e;
        same_turns = ap (λ z. z.counts.turns) e;
      }) below

  pub told_at : (limit : ℕ) (v a b : SessionValue C) (t : List ℕ) (c : C) → v ≡ a → tells v.state t c
      → b ≡ record v { state = c; unsent = v.unsent ++ t } → length a.unsent < limit → Worked answers tells limit a b
  told_at limit v a b t c is p e below = subst (λ (z : SessionValue C). length z.unsent < limit → Worked answers tells limit z b) is
      (λ short. record {
        served = served_told v b t c p e;
        bounded = inr (t, (Told t, v.state, c, p, append_nil t), subst (λ (l : List ℕ). length l < limit + length t) (ap (λ z. z.unsent) (sym e)) (below_and limit 0 v.unsent t short));
        same_end = ap (λ z. z.is_at_end) e;
        same_turns = ap (λ z. z.counts.turns) e;
      }) below

  pub still_at : (limit : ℕ) (v a b : SessionValue C) → v ≡ a → b ≡ v → Worked answers tells limit a b
  still_at limit v a b is e = worked_still limit a b (e ∙ is)

-- what is unsent is below the limit still, when a message is held
pub held_below : {C : Type 0} (limit : ℕ) (a b : SessionValue C) → (b ≡ a) ⊎ Holds a b → length a.unsent < limit → length b.unsent < limit
held_below limit a b (inl e) below = subst (λ (l : List ℕ). length l < limit) (sym (ap (λ z. z.unsent) e)) below
held_below limit a b (inr h) below = subst (λ (l : List ℕ). length l < limit) (sym (ap (λ z. z.unsent) h.now)) below

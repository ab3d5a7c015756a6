-- Each move keeps the rule of the feed: beginning, sending, taking, a new end, an end that comes back; and what a look tells.
use Rattle.std.proofs.Common.{◌≡◌, ◌≢◌, ℕ, zero, suc, ◌+◌, ◌<◌, ◌==◌, true, false, true≢false, List, [], ◌∷◌, ◌++◌, length, set, get_or, eqb, sym, refl, ap, ◌∙◌, subst, ⊎_elim, append_assoc, length-append, arith}
use Rattle.std.proofs.lemmas.List.{append-nil}
use Rattle.std.proofs.lemmas.Bool.Decides.{eqb_tells}
use mathlib.Core.Option.{Option, some, none, some-ne-none, some-injective}
use lib.ListN.{get_elem?}
use Rattle.crossbeam_queue.specs.Fifo.{Pushes, Pops, Forks, Merges, Learns}
use Rattle.crossbeam_queue.proofs.Lists.{at_set, at_snoc}
use Rattle.ovs_sync.specs.declared.feed.item.Item.{Item}
use Rattle.ovs_sync.specs.declared.feed.rule.Side.{Side}
use Rattle.ovs_sync.proofs.Changed.{changed_at, at_same, at_other}
use Rattle.ovs_sync.proofs.Values.{values_same, values_other, values_append}
use Rattle.ovs_sync.specs.FeedRule.{end, folder, nobody, values_of, FitsEnd, FitsFolder, KeepsOrder, SentMore, TookMore, AddsUp}

abbrev seat0 : ℕ → Option ℕ
seat0 p = none

module _ {T : Type 0} where
  -- a side that is found only once another was put behind the rest is that one
  at_end : (l : List (Side T)) (a b : Side T) (j : ℕ) → get_elem? l j ≢ some b → get_elem? (l ++ a ∷ []) j ≡ some b → j ≡ length l
  at_end [] a b zero n e = refl
  at_end [] a b (suc j) n e = absurd (some-ne-none b (sym e))
  at_end (x ∷ xs) a b zero n e = absurd (n e)
  at_end (x ∷ xs) a b (suc j) n e = ap suc (at_end xs a b j n e)

  -- of each side, under the number of its pass
  abbrev All : (ℕ → Side T → Type 0) → List (Side T) → Type 0
  All F views = (pass : ℕ) (v : Side T) → get_elem? views pass ≡ some v → F pass v

  -- a fact of all sides still holds where one was changed, if it holds of the new one and of the others
  all_set : (F : ℕ → Side T → Type 0) (views : List (Side T)) (pass : ℕ) (w : Side T) → F pass w → ((j : ℕ) (u : Side T) → j ≢ pass → get_elem? views j ≡ some u → F j u) → All F (set views pass w)
  all_set F views pass w mine others j u e = ⊎_elim (λ (x : (j ≡ pass) × (w ≡ u)). subst (λ (y : ℕ × Side T). F y.0 y.1) (λ i. (sym x.0 i, x.1 i)) mine)
      (λ (x : (j ≢ pass) × (get_elem? views j ≡ some u)). others j u x.0 x.1) (at_set views pass j w u e)

  abbrev Fits : ℕ → (ℕ → Option ℕ) → (ℕ → List T) → List (Item T) → ℕ → Side T → Type 0
  Fits reader seat sent taken pass v = FitsEnd seat sent pass v × FitsFolder reader seat sent taken pass v

  -- who can't send owes nothing of an end, and who can't take nothing of the folder
  not_end : (seat : ℕ → Option ℕ) (sent : ℕ → List T) (pass : ℕ) (v : Side T) → v.sends ≡ false → FitsEnd seat sent pass v
  not_end seat sent pass v isnt says = absurd (true≢false (sym says ∙ isnt))

  not_folder : (reader : ℕ) (seat : ℕ → Option ℕ) (sent : ℕ → List T) (taken : List (Item T)) (pass : ℕ) (v : Side T) → v.takes ≡ false → FitsFolder reader seat sent taken pass v
  not_folder reader seat sent taken pass v isnt says = absurd (true≢false (sym says ∙ isnt))

  abbrev sent0 : ℕ → List T
  sent0 p = []

  -- the folder alone, and nothing in the queue
  pub begins : KeepsOrder {T = T} [] (folder [] 0 [] ∷ [])
  begins = (
    0,
    seat0,
    sent0,
    [],
    (λ p. refl),
    all_set (Fits 0 seat0 sent0 []) (folder [] 0 [] ∷ []) 0 (folder [] 0 []) (not_end seat0 sent0 0 (folder [] 0 []) refl, λ _. (refl, refl, (λ p _. (refl, refl)), (λ k lt. absurd (omega arith)), omega arith))
        (λ j u other e. absurd (other (at_end [] (folder [] 0 []) u j (λ x. some-ne-none u (sym x)) e))),
  )

  -- an end's item joins at the back
  pub sends : (n pass : ℕ) (v : Side T) (x : Item T) → v.sends ≡ true → x.from ≡ v.number → Pushes KeepsOrder n pass v x (SentMore v x)
  sends n pass v x is from items views _ h at =
      let reader = h.0 in let seat = h.1 in let sent = h.2 in let taken = h.3 in
      let mine = (h.5 pass v at).0 is in
      let w : Side T = end v.number (v.sent ++ x.value ∷ []) in
      let sent' : ℕ → List T = changed_at sent v.number (v.sent ++ x.value ∷ []) in
      let same : sent' v.number ≡ v.sent ++ x.value ∷ [] = at_same sent v.number (v.sent ++ x.value ∷ []) in
      let less : (p : ℕ) → p ≢ v.number → sent' p ≡ sent p = at_other sent v.number (v.sent ++ x.value ∷ []) in
      let old : (p : ℕ) → values_of p (taken ++ (items ++ x ∷ [])) ≡ values_of p (taken ++ items) ++ values_of p (x ∷ []) = λ p. ap (values_of p) (sym (append_assoc taken items (x ∷ []))) ∙ values_append p (taken ++ items) (x ∷ []) in (
        w,
        (
          reader,
          seat,
          sent',
          taken,
          (λ p. ⊎_elim
              (λ (t : ((p == v.number) ≡ true) × (p ≡ v.number)).
              old p ∙ ap (λ l. l ++ values_of p (x ∷ [])) (h.4 p) ∙ ap (λ l. sent p ++ l) (values_same p x [] (from ∙ sym t.1)) ∙ ap (λ l. l ++ x.value ∷ []) (ap sent t.1 ∙ sym mine.1) ∙ sym same ∙ ap sent' (sym t.1))
              (λ (t : ((p == v.number) ≡ false) × (p ≢ v.number)).
              old p ∙ ap (λ l. l ++ values_of p (x ∷ [])) (h.4 p) ∙ ap (λ l. sent p ++ l) (values_other p x [] (λ e. t.1 (sym e ∙ from))) ∙ append-nil (sent p) ∙ sym (less p t.1))
              (eqb_tells p v.number)),
          all_set (Fits reader seat sent' taken) views pass w ((λ _. (mine.0, sym same)), not_folder reader seat sent' taken pass w refl)
              (λ j u other e. let u' = h.5 j u e in (
                (λ says. let s = u'.0 says in (s.0, s.1 ∙ sym (less u.number (λ eq. other (some-injective j pass (sym s.0 ∙ ap seat eq ∙ mine.0)))))),
                (λ says. let f = u'.1 says in (
                  f.0,
                  f.1,
                  (λ p le. let g = f.2 p le in (g.0, less p (λ eq. some-ne-none pass (sym mine.0 ∙ ap seat (sym eq) ∙ g.0)) ∙ g.1)),
                  (λ k lt. let g = f.3 k lt in (g.0, g.1 ∙ sym (less k (λ eq. some-ne-none pass (sym mine.0 ∙ ap seat (sym eq) ∙ g.0))))),
                  f.4,
                )),
              )),
        ),
        refl,
      )

  -- the first item leaves, and the folder took it
  pub takes : (pass : ℕ) (v : Side T) → v.takes ≡ true → Pops KeepsOrder pass v (TookMore v)
  takes pass v is x items views h at =
      let reader = h.0 in let seat = h.1 in let sent = h.2 in let taken = h.3 in
      let mine = (h.5 pass v at).1 is in
      let w : Side T = folder (v.taken ++ x ∷ []) v.ends v.returned in
      let taken' = taken ++ x ∷ [] in (
        w,
        (
          reader,
          seat,
          sent,
          taken',
          (λ p. ap (values_of p) (append_assoc taken (x ∷ []) items) ∙ h.4 p),
          all_set (Fits reader seat sent taken') views pass w (not_end seat sent pass w refl, λ _. (mine.0, ap (λ l. l ++ x ∷ []) mine.1, mine.2, mine.3, mine.4))
              (λ j u other e. let u' = h.5 j u e in (u'.0, λ says. absurd (other ((u'.1 says).0 ∙ sym mine.0)))),
        ),
        refl,
      )

  -- what the folder can tell of what is left in the queue
  pub learns : (pass : ℕ) (v : Side T) → v.takes ≡ true → Learns KeepsOrder pass v (AddsUp v)
  learns pass v is items views h at =
      let mine = (h.5 pass v at).1 is in (
        (λ k lt. (mine.3 k lt).1 ∙ sym (h.4 k) ∙ ap (λ l. values_of k (l ++ items)) (sym mine.1)),
        (λ p le. ap (λ l. values_of p (l ++ items)) mine.1 ∙ h.4 p ∙ (mine.2 p le).1),
      )

  -- an end is made, under the next number
  pub forks : (pass : ℕ) (v : Side T) → v.takes ≡ true → Forks KeepsOrder pass v (folder v.taken (v.ends + 1) v.returned) (end v.ends [])
  forks pass v is items views h at =
      let reader = h.0 in let seat = h.1 in let sent = h.2 in let taken = h.3 in
      let mine = (h.5 pass v at).1 is in
      let l : Side T = folder v.taken (v.ends + 1) v.returned in
      let r : Side T = end v.ends [] in
      let vs : List (Side T) = set views pass l in
      let free = mine.2 v.ends (omega arith) in
      let seat' : ℕ → Option ℕ = changed_at seat v.ends (some (length vs)) in
      let here : seat' v.ends ≡ some (length vs) = at_same seat v.ends (some (length vs)) in
      let less : (p : ℕ) → p ≢ v.ends → seat' p ≡ seat p = at_other seat v.ends (some (length vs)) in
      let old : All (FitsEnd seat sent) vs = all_set (FitsEnd seat sent) views pass l (not_end seat sent pass l refl) (λ j u other e. (h.5 j u e).0) in
      let now : All (Fits reader seat' sent taken) vs = all_set (Fits reader seat' sent taken) views pass l (
        not_end seat' sent pass l refl,
        λ _. (
          mine.0,
          mine.1,
          (λ p le. let g = mine.2 p (omega arith) in (less p (λ e. omega (arith, e)) ∙ g.0, g.1)),
          (λ k lt. let g = mine.3 k lt in (less k (λ e. let m = mine.4 in omega (arith, e)) ∙ g.0, g.1)),
          (let m = mine.4 in omega arith),
        ),
      )
      (λ j u other e. let u' = h.5 j u e in (
        (λ says. let s = u'.0 says in (less u.number (λ eq. some-ne-none j (sym s.0 ∙ ap seat eq ∙ free.0)) ∙ s.0, s.1)),
        (λ says. absurd (other ((u'.1 says).0 ∙ sym mine.0))),
      )) in (
        reader,
        seat',
        sent,
        taken,
        h.4,
        λ j u e. ⊎_elim (λ (x : get_elem? vs j ≡ some u). now j u x)
            (λ (same : r ≡ u).
            let last : j ≡ length vs = at_end vs r u j (λ x. let s = old j r (x ∙ ap some (sym same)) refl in some-ne-none j (sym s.0 ∙ free.0)) e in
            subst (Fits reader seat' sent taken j) same ((λ _. (here ∙ ap some (sym last), sym free.1)), not_folder reader seat' sent taken j r refl))
            (at_snoc vs r u j e),
      )

  known_left : (xs : List (List T)) (y : List T) (k : ℕ) → k < length xs → get_or (xs ++ y ∷ []) k [] ≡ get_or xs k []
  known_left [] y k lt = absurd (omega arith)
  known_left (x ∷ xs) y zero lt = refl
  known_left (x ∷ xs) y (suc k) lt = known_left xs y k (omega arith)

  known_last : (xs : List (List T)) (y : List T) (k : ℕ) → k ≡ length xs → get_or (xs ++ y ∷ []) k [] ≡ y
  known_last [] y zero e = refl
  known_last [] y (suc k) e = absurd (omega arith)
  known_last (x ∷ xs) y zero e = absurd (omega arith)
  known_last (x ∷ xs) y (suc k) e = known_last xs y k (omega arith)

  -- the next end by its number comes back
  pub merges : (pass : ℕ) (v : Side T) (other : ℕ) (w : Side T) → v.takes ≡ true → w.sends ≡ true → w.number ≡ length v.returned → length v.returned < v.ends
      → Merges KeepsOrder pass v other w (folder v.taken v.ends (v.returned ++ w.sent ∷ [])) nobody
  merges pass v other w is ends next room items views h at two at' =
      let reader = h.0 in let seat = h.1 in let sent = h.2 in let taken = h.3 in
      let both : Side T = folder v.taken v.ends (v.returned ++ w.sent ∷ []) in
      let mine = (h.5 pass v at).1 is in
      let vs : List (Side T) = set views pass both in
      let was : get_elem? views other ≡ some w = ⊎_elim (λ (x : (other ≡ pass) × (both ≡ w)). absurd (two x.0)) (λ (x : (other ≢ pass) × (get_elem? views other ≡ some w)). x.1) (at_set views pass other both w at') in
      let theirs = (h.5 other w was).0 ends in
      let seat' : ℕ → Option ℕ = changed_at seat w.number none in
      let here : seat' w.number ≡ none = at_same seat w.number none in
      let less : (p : ℕ) → p ≢ w.number → seat' p ≡ seat p = at_other seat w.number none in
      let Now : ℕ → Side T → Type 0 = λ j y. j ≢ other → Fits reader seat' sent taken j y in
      let now : All Now vs = all_set Now views pass both
      (λ _. (
        not_end seat' sent pass both refl,
        λ _. (
          mine.0,
          mine.1,
          (λ p le. let g = mine.2 p le in (less p (λ e. omega (arith, e)) ∙ g.0, g.1)),
          (λ k lt. ⊎_elim
              (λ (t : (eqb k (length v.returned) ≡ true) × (k ≡ length v.returned)). (ap seat' (t.1 ∙ sym next) ∙ here, known_last v.returned w.sent k t.1 ∙ theirs.1 ∙ ap sent (next ∙ sym t.1)))
              (λ (t : (eqb k (length v.returned) ≡ false) × (k ≢ length v.returned)).
              let lt' : k < length v.returned = let ne = t.1 in omega (arith, length-append v.returned (w.sent ∷ [])) in
              let g = mine.3 k lt' in
              (less k (λ e. t.1 (e ∙ next)) ∙ g.0, known_left v.returned w.sent k lt' ∙ g.1))
              (eqb_tells k (length v.returned))),
          omega (arith, length-append v.returned (w.sent ∷ [])),
        ),
      ))
      (λ j y far e apart. let u' = h.5 j y e in (
        (λ says. let s = u'.0 says in (less y.number (λ eq. apart (some-injective j other (sym s.0 ∙ ap seat eq ∙ theirs.0))) ∙ s.0, s.1)),
        (λ says. absurd (far ((u'.1 says).0 ∙ sym mine.0))),
      )) in
      (reader, seat', sent, taken, h.4, all_set (Fits reader seat' sent taken) vs other nobody (not_end seat' sent other nobody refl, not_folder reader seat' sent taken other nobody refl) (λ j y apart e. now j y e apart))

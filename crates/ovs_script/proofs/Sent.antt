-- One write after another.
use Rattle.std.proofs.Common.{◌≡◌, ℕ, ◌+◌, ◌-◌, ◌≤◌, Option, List, [], ◌++◌, length, take, drop, ap, sym, arith, refl, subst, take-append-drop, append_assoc, append-nil, ◌∙◌, Result, Ok, Err, OnOk, OnErr}
use Rattle.std.proofs.Math.Seq.{take-add}
use Rattle.std.proofs.lemmas.Grind.{common_steps}
use Rattle.std.proofs.KnownBytes.{Appends-nil, Appends-trans}
use Rattle.std.specs.Io.KnownBytes.{Appends}
use Rattle.ovs_script.specs.Sending.{AppendsAllBut, AppendsBeginning}

pub on_err : {T E : Type 0} (r : Result T E) (P : Type 0) → P → OnErr r P
on_err (Ok x) P holds = tt
on_err (Err e) P holds = holds

pub err_map : {T E : Type 0} (r : Result T E) (P Q : Type 0) → (P → Q) → OnErr r P → OnErr r Q
err_map (Ok x) P Q f holds = tt
err_map (Err e) P Q f holds = f holds

pub begun : (before now : Option (List ℕ)) (text : List ℕ) (n : ℕ) → Appends before now (take n text) → AppendsBeginning before now text
begun before now text n sent = (drop n text, (take n text, sent, sym (take-append-drop n text)))

rest_whole : (text : List ℕ) (n : ℕ) → n ≤ length text → take (length text - n) (drop n text) ≡ drop n text
rest_whole text n within = grind (arith, common_steps)

-- n bytes were sent, and then m of the rest
pub sent_more : (before now new : Option (List ℕ)) (text : List ℕ) (n m : ℕ) → n ≤ length text → Appends before now (take n text)
    → Appends now new (take m (take (length text - n) (drop n text))) → Appends before new (take (n + m) text)
sent_more before now new text n m within sent more =
    let more' : Appends now new (take m (drop n text)) = subst (λ (l : List ℕ). Appends now new (take m l)) (rest_whole text n within) more in
    subst (λ (l : List ℕ). Appends before new l) (sym (take-add n m text)) (Appends-trans before now new (take n text) (take m (drop n text)) sent more')

-- nothing was sent, and the same waits
pub unsent : (writer : Option (List ℕ)) (waited waiting others : List ℕ) → waiting ≡ waited
    → (more : List ℕ) × AppendsAllBut writer writer (waited ++ others) (waiting ++ more)
unsent writer waited waiting others same = (others, ([], Appends-nil writer, ap (λ l. l ++ others) (sym same)))

pub nothing_sent : (writer : Option (List ℕ)) (waiting : List ℕ) → AppendsBeginning writer writer waiting
nothing_sent writer waiting = (waiting, ([], Appends-nil writer, refl))

-- of what waited a beginning is sent, and the rest is lost
pub beginning_sent : (before now new : Option (List ℕ)) (text waiting others : List ℕ) → AppendsAllBut before now text (waiting ++ others) → AppendsBeginning now new waiting
    → AppendsBeginning before new text
beginning_sent before now new text waiting others old sent =
    let lost = sent.0 in
    let part = sent.1 in (
      lost ++ others,
      (
        old.0 ++ part.0,
        Appends-trans before now new old.0 part.0 old.1 part.1,
        old.2 ∙ ap (λ l. old.0 ++ (l ++ others)) part.2 ∙ ap (λ l. old.0 ++ l) (append_assoc part.0 lost others)
            ∙ sym (append_assoc old.0 part.0 (lost ++ others)),
      ),
    )

-- one text behind another: of the first this waits, and it stands before the second
pub sent_then : (before now new : Option (List ℕ)) (waited first second waiting rest : List ℕ) → AppendsAllBut before now (waited ++ first) waiting
    → AppendsAllBut now new (waiting ++ second) rest → AppendsAllBut before new (waited ++ (first ++ second)) rest
sent_then before now new waited first second waiting rest sent more = (
  sent.0 ++ more.0,
  Appends-trans before now new sent.0 more.0 sent.1 more.1,
  sym (append_assoc waited first second) ∙ ap (λ l. l ++ second) sent.2 ∙ append_assoc sent.0 waiting second
      ∙ ap (λ l. sent.0 ++ l) more.2 ∙ sym (append_assoc sent.0 more.0 rest),
)

-- the same where all of the second is sent
pub sent_whole : (before now new : Option (List ℕ)) (waited first second waiting : List ℕ) → AppendsAllBut before now (waited ++ first) waiting
    → Appends now new (waiting ++ second) → Appends before new (waited ++ (first ++ second))
sent_whole before now new waited first second waiting sent more =
    subst (λ (l : List ℕ). Appends before new l)
    (sym (append_assoc sent.0 waiting second) ∙ ap (λ l. l ++ second) (sym sent.2) ∙ append_assoc waited first second)
    (Appends-trans before now new sent.0 (waiting ++ second) sent.1 more)

pub ok_map : {T E : Type 0} (r : Result T E) (P Q : Type 0) → (P → Q) → OnOk r P → OnOk r Q
ok_map (Ok x) P Q f holds = f holds
ok_map (Err e) P Q f holds = tt

-- all of a text is a beginning of it
pub all_begun : (before now : Option (List ℕ)) (text : List ℕ) → Appends before now text → AppendsBeginning before now text
all_begun before now text sent = ([], (text, sent, sym (append-nil text)))

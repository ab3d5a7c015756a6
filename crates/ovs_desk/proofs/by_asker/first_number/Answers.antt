use Rattle.std.proofs.Common.{◌≡◌, ◌∙◌, ◌<◌, ◌≤◌, ◌==◌, ℕ, Some, None, List, length, true, false, cond, sym, ap, arith}
use Rattle.std.specs.Prelude.{slice_get}
use Rattle.std.proofs.lemmas.Bool.{ltb-true, ltb-false}
use Rattle.std.proofs.lemmas.Option.{slice_get_past, slice_get-get_or}
use Rattle.ovs_desk.specs.declared.by_asker.ByAsker.{ByAsker}
use Rattle.ovs_desk.specs.ByAsker.{first_number, InOrder, place}
use Rattle.ovs_desk.proofs.ByAskers.{first_at, own_number, least}
use Rattle.ovs_desk.proofs.by_asker.first_number.Goals as goal

at_place : (session : ℕ) (l : List ByAsker) (n : ℕ) → InOrder l → n ≡ place (least session) l → first_number session l ≡ own_number session (slice_get l n)
at_place session l n o at = first_at session l o ∙ ap (λ (k : ℕ). own_number session (slice_get l k)) (sym at)

pub returns-in_err-one : goal.returns-in_err-one
returns-in_err-one c =
    let l = c.args.list.now in
    let n = c.place.result in
    let past : length l ≤ n = ltb-false n (length l) (sym c.in_err-one.ensures.lookup.0) in
    record {
      value = c.from_residual.ensures
          ∙ sym (at_place c.args.asker l n c.requires.in_order c.place.ensures.value ∙ ap (own_number c.args.asker) (slice_get_past l n past));
    }

pub returns-then-one-asker : goal.returns-then-one-asker
returns-then-one-asker c =
    let l = c.args.list.now in
    let n = c.place.result in
    let one = c.in_ok-one.one.now in
    let within : n < length l = ltb-true n (length l) (sym c.in_ok-one.ensures.lookup.0) in
    let found : slice_get l n ≡ Some one = slice_get-get_or l n one within ∙ ap (λ (a : ByAsker). Some a) (sym c.in_ok-one.ensures.lookup.1) in
    let own : (one.asker == c.args.asker) ≡ true = grind (arith, c.if-one-asker.true) in
    record {
      value = sym (at_place c.args.asker l n c.requires.in_order c.place.ensures.value ∙ ap (own_number c.args.asker) found
          ∙ ap (λ b. cond b (Some one.number) None) own);
    }

pub returns-else-one-asker : goal.returns-else-one-asker
returns-else-one-asker c =
    let l = c.args.list.now in
    let n = c.place.result in
    let one = c.in_ok-one.one.now in
    let within : n < length l = ltb-true n (length l) (sym c.in_ok-one.ensures.lookup.0) in
    let found : slice_get l n ≡ Some one = slice_get-get_or l n one within ∙ ap (λ (a : ByAsker). Some a) (sym c.in_ok-one.ensures.lookup.1) in
    let own : (one.asker == c.args.asker) ≡ false = grind (arith, c.if-one-asker.false) in
    record {
      value = sym (at_place c.args.asker l n c.requires.in_order c.place.ensures.value ∙ ap (own_number c.args.asker) found
          ∙ ap (λ b. cond b (Some one.number) None) own);
    }

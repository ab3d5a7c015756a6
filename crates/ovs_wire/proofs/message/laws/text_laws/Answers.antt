use Rattle.std.proofs.Common.{◌∷◌, subst, sym}
use Rattle.ovs_wire.specs.Frames.{IsBalanced, IsObject}
use Rattle.ovs_wire.proofs.Spelled.{read_as_object, limits_in, padded_frames, bare_is}
use Rattle.ovs_wire.proofs.Spelling.{one_message}
use Rattle.ovs_wire.proofs.Through.{written_says}
use Rattle.ovs_wire.proofs.message.laws.text_laws.Goals as goal

pub returns : goal.returns
returns c = record {
  one = one_message;
  said = written_says;
  balanced = λ bytes ms text. let s = read_as_object bytes ms text.1 in (123 ∷ s.body, s.padded, s.balanced);
  bare = λ bytes ms text bare.
      let s = read_as_object bytes ms text.1 in
      subst IsBalanced (sym (bare_is bytes (123 ∷ s.body) s.padded bare)) s.balanced;
  frame = λ most bytes ms text limits.
      let s = read_as_object bytes ms text.1 in
      let o = 123 ∷ s.body in
      let whole : IsObject most o = record { balanced = s.balanced; limits = limits_in bytes o s.padded limits } in
      (o, s.padded, whole, padded_frames bytes o s.padded whole);
}

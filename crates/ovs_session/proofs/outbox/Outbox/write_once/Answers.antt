use Rattle.std.proofs.Common.{rules, arith, ◌+◌, ◌++◌, ◌≤◌, ℕ, List, length, take, drop, ap, sym, ◌∙◌}
use Rattle.std.specs.Io.KnownBytes.{Appends}
use Rattle.ovs_session.proofs.Written.{goes, went_length, slice_end}
use Rattle.ovs_session.proofs.outbox.Outbox.write_once.Goals as goal

pub returns-in-Ok-clause-written : goal.returns-in-Ok-clause-written
returns-in-Ok-clause-written g c =
    let s = c.self.inside.sent in
    let out = c.self.inside.bytes.items in
    let n = c.in-Ok.count in
    let contents = g.W.Write.contents in
    let half : s + s ≤ length out = c.self.invariant in
    let within : s ≤ length out = omega arith in
    let whole = slice_end s out within in
    let some : n ≤ length (drop s out) = search rules in
    let bytes_written : Appends (contents c.args.writer.now.device) (contents c.write.new.self.device) (take n (drop s out)) = search rules in (
      take n (drop s out),
      bytes_written,
      sym c.self.view_is ∙ goes s n out within some ∙ ap (λ (l : List ℕ). take n (drop s out) ++ l) (sym c.compact-self-inside.ensures.value),
      went_length n (drop s out) some,
      tt,
    )

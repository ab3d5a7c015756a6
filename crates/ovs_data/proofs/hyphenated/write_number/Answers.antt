use Rattle.std.proofs.Common.{◌∙◌, arith, ap}
use Rattle.std.specs.Int.{w128, to_be_bytes}
use Rattle.uuid.specs.Text.{lower}
use Rattle.ovs_data.specs.Id.{read_id}
use Rattle.ovs_data.proofs.Ids.{length-hyphenated, id_reads_back}
use Rattle.ovs_data.proofs.hyphenated.write_number.Goals as goal

pub copy_from_slice-requires : goal.copy_from_slice-requires
copy_from_slice-requires c = rw (c.as_bytes.ensures.value, c.encode-text.ensures.text) (omega (arith, length-hyphenated lower (to_be_bytes w128 c.args.value)))

pub returns-clause-again : goal.returns-clause-again
returns-clause-again c =
    ap read_id (c.copy_from_slice.ensures.after ∙ c.as_bytes.ensures.value ∙ c.encode-text.ensures.text) ∙ id_reads_back c.args.value c.ranges.value.fits

use Rattle.std.proofs.Common.{◌∙◌, ap}
use Rattle.ovs_data.specs.Id.{read_id}
use Rattle.ovs_data.proofs.Ids.{id_reads_back}
use Rattle.ovs_data.proofs.hyphenated.number_text.Goals as goal

pub returns : goal.returns
returns c =
    let text = c.in_ok-from_str.ensures.ok ∙ c.encode-text.ensures.text in
    record { text = text; again = ap read_id text ∙ id_reads_back c.args.value c.ranges.value.fits }

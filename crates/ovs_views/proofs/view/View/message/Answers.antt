use Rattle.std.proofs.Common.{◌∙◌, [], sym}
use Rattle.std.proofs.lemmas.List.{append-nil}
use Rattle.ovs_views.proofs.view.View.message.Goals as goal

pub returns-in_err-front-in-Some-clause-known : goal.returns-in_err-front-in-Some-clause-known
returns-in_err-front-in-Some-clause-known g c = ([], append-nil c.args.self.now ∙ sym c.self.view_is)

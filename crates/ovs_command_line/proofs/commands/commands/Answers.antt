use Rattle.std.proofs.Common.{◌≡◌, ◌∙◌, ap, ap₂, codes, true, false, Bool, not, rules, refl, sym}
use Rattle.std.proofs.lemmas.Bool.{and_parts}
use Rattle.std.proofs.lemmas.Result.{IfOk-weaker}
use Rattle.clap.specs.Words.{App, app_of, new_app, with_subcommand}
use Rattle.clap.specs.declared.builder.command.Command.{Command}
use Rattle.clap.specs.declared.builder.command.Command.TheViews.{out-Command}
use Rattle.ovs_command_line.specs.CommandLine.{fold_app, world_app, source_app}
use Rattle.ovs_command_line.proofs.commands.commands.Goals as goal

abbrev base : App
base =
    record (new_app (codes "ovs_relay")) { top = record (new_app (codes "ovs_relay")).top { has_version = true; propagate_version = true; subcommand_required = true; disable_help_subcommand = true } }

not_true : (b : Bool) → not b ≡ true → b ≡ false
not_true false is = refl
not_true true is = sym is

-- a command as `clap` sees it plain has no argument for all of its subcommands
has_no_globals : (c : Command) → (app_of c).top.is_plain ≡ true → (out-Command c).has_globals ≡ false
has_no_globals c plain = not_true (out-Command c).has_globals (and_parts _ _ (and_parts _ _ (and_parts _ _ plain).1).1).0

pub returns : goal.returns
returns c =
    let plain : App → Bool = λ a. a.top.is_plain in
    let base_is : app_of c.in_ok-bin_name.field-0 ≡ base = search rules in
    let fold_is = c.in_ok-fold.ensures.value in
    let world_is = c.world_command-world.ensures.value in
    let source_is = c.in_ok-source.ensures.value in
    let relay_is = c.in_ok-relay.ensures.value in
    let with_fold : app_of c.in_ok-subcommand.field-0 ≡ with_subcommand base fold_app.top =
    c.in_ok-subcommand.ensures.shape (has_no_globals c.in_ok-fold.fold (ap plain fold_is)) ∙ ap₂ with_subcommand base_is (ap (λ (a : App). a.top) fold_is) in
    let with_world : app_of c.in_ok-subcommand-2.field-0 ≡ with_subcommand (with_subcommand base fold_app.top) world_app.top =
    c.in_ok-subcommand-2.ensures.shape (has_no_globals c.world_command-world.result (ap plain world_is))
    ∙ ap₂ with_subcommand with_fold (ap (λ (a : App). a.top) world_is) in
    let with_source : app_of c.in_ok-subcommand-3.field-0 ≡ with_subcommand (with_subcommand (with_subcommand base fold_app.top) world_app.top) source_app.top =
    c.in_ok-subcommand-3.ensures.shape (has_no_globals c.in_ok-source.source (ap plain source_is))
    ∙ ap₂ with_subcommand with_world (ap (λ (a : App). a.top) source_is) in
    record {
      value = IfOk-weaker c.subcommand-4.result _ _ (λ m adds. adds.shape (has_no_globals c.in_ok-relay.relay (ap plain relay_is))
          ∙ ap₂ with_subcommand with_source (ap (λ (a : App). a.top) relay_is)) c.subcommand-4.ensures;
    }

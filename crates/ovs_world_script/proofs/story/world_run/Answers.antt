use Rattle.std.proofs.Common.{subst, List, ℕ, Option}
use Rattle.std.specs.Prelude.{IfSome}
use Rattle.ovs_script.specs.Texts.{Texts, input_known, IsOutput, IsOutputSoFar, AreFirstAnswers, HearsAllRead}
use Rattle.ovs_script.specs.Sending.{AppendsBeginning}
use Rattle.ovs_script.specs.Said.{WritesOutput, WritesSaid}
use Rattle.ovs_world_script.specs.declared.story.Story.{Story}
use Rattle.ovs_world_script.specs.Story.{story_rules, beginning}
use Rattle.ovs_world_script.proofs.Alone.{of_text, all_said_alone, counts_alone}
use Rattle.ovs_world_script.proofs.story.world_run.Goals as goal

pub returns-clause-whole : goal.returns-clause-whole
returns-clause-whole g c =
    let input = g.R.Read.remaining c.args.reader.now.device in
    let before = g.W.Write.contents c.args.writer.now.device in
    let now = g.W.Write.contents c.run_script.new.writer.device in
    let wrote : Story → Texts → Type 0 = λ f t. WritesOutput c.run_script.result (IsOutput story_rules f t) before now in
    of_text (wrote _) input (subst (λ (f : Story). IfSome (input_known input) (wrote f)) c.new.ensures.value c.run_script.ensures.whole)

pub returns-clause-begun : goal.returns-clause-begun
returns-clause-begun g c =
    let input = g.R.Read.remaining c.args.reader.now.device in
    let before = g.W.Write.contents c.args.writer.now.device in
    let now = g.W.Write.contents c.run_script.new.writer.device in
    let begun : Story → Texts → Type 0 = λ f t. (output : List ℕ) × IsOutputSoFar story_rules f t output × AppendsBeginning before now output in
    of_text (begun _) input (subst (λ (f : Story). IfSome (input_known input) (begun f)) c.new.ensures.value c.run_script.ensures.begun)

pub returns-clause-said : goal.returns-clause-said
returns-clause-said g c =
    let input = g.R.Read.remaining c.args.reader.now.device in
    let left = g.R.Read.remaining c.run_script.new.reader.device in
    let before = g.W.Write.contents c.args.writer.now.device in
    let now = g.W.Write.contents c.run_script.new.writer.device in
    let last = c.run_script.new.script in
    let said : Option (List ℕ) → Story → Type 0 = λ second f. IfSome (input_known input) (λ (t : Texts). WritesSaid c.run_script.result
    (HearsAllRead story_rules f last t left second) (AreFirstAnswers story_rules f t) before now) in
    (last, all_said_alone story_rules beginning last input left _ before now c.run_script.result (subst (said _) c.new.ensures.value c.run_script.ensures.said))

pub returns-clause-counted : goal.returns-clause-counted
returns-clause-counted g c =
    counts_alone c.args.reader.now c.run_script.new.reader c.run_script.new.second c.args.writer.now c.run_script.new.writer c.run_script.result c.run_script.ensures.counted

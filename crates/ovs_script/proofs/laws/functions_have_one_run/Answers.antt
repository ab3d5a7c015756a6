use Rattle.ovs_script.proofs.OneRun.{says_one, one_says, one_output, output_is_one, so_far_begins, second_heard, heard_second}
use Rattle.ovs_script.proofs.laws.functions_have_one_run.Goals as goal

pub returns-clause-lines : goal.returns-clause-lines
returns-clause-lines g c f s t n lines said = (says_one f s n lines said t, λ is. one_says f s n lines said t is)

pub returns-clause-output : goal.returns-clause-output
returns-clause-output g c f s t output is_content = (one_output f s t output is_content, output_is_one f s t output is_content)

pub returns-clause-begun : goal.returns-clause-begun
returns-clause-begun g c f s t output so_far = so_far_begins f s t output so_far

pub returns-clause-second : goal.returns-clause-second
returns-clause-second g c f s input = (second_heard f s input, heard_second f s input)

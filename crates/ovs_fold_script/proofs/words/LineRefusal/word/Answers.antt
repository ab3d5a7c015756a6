use Rattle.ovs_fold_script.proofs.words.LineRefusal.word.Goals as goal

pub returns-in-Fork : goal.returns-in-Fork
returns-in-Fork c = record { text = rw c.in-Fork.is c.fork_word.ensures.text }

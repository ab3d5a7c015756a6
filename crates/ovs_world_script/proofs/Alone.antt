-- Runs over one text alone.
use Rattle.std.proofs.Common.{◌≡◌, ℕ, List, Option, Some, None, true, false, refl, IfSome, inl, inr}
use Rattle.ovs_wire.specs.Counted.{Counting}
use Rattle.ovs_script.specs.declared.run_end.RunEnd.{RunEnd}
use Rattle.ovs_script.specs.declared.run_end.RunEnd.TheVariants.{Clean, Refused, ReadFault, WriteFault, TurnsSpent, NoMemory}
use Rattle.ovs_script.specs.Counts.{CountsRun}
use Rattle.ovs_script.specs.Rules.{Rules}
use Rattle.ovs_script.specs.Said.{WritesSaid}
use Rattle.ovs_script.specs.Texts.{Texts, input_known, AreFirstAnswers, AreAnswersToFirst, HearsAllRead, HearsRead}
use Rattle.ovs_world_script.specs.Story.{alone, CountsAlone}

-- what is so of all texts that are known is so of the text
pub of_text : (P : Texts → Type 0) (input : Option (List ℕ)) → IfSome (input_known input) P → IfSome input (λ text. P (alone text))
of_text P None is = tt
of_text P (Some text) is = is

-- there is no second text to which anything is said
first_alone : {S : Type 0} (rules : Rules S) (s : S) (text said : List ℕ) → AreFirstAnswers rules s (alone text) said → AreAnswersToFirst rules s text said
first_alone rules s text said (inl first) = first
first_alone rules s text said (inr none) = absurd none

read_alone : {S : Type 0} (rules : Rules S) (s s' : S) (text : List ℕ) (left second : Option (List ℕ)) (said : List ℕ)
    → HearsAllRead rules s s' (alone text) left second said → HearsRead rules s s' text left said
read_alone rules s s' text left second said (inl (heard, none)) = heard
read_alone rules s s' text left second said (inr none) = absurd none

pub said_alone : {S : Type 0} (rules : Rules S) (s s' : S) (text : List ℕ) (left second before now : Option (List ℕ)) (end : RunEnd)
    → WritesSaid end (HearsAllRead rules s s' (alone text) left second) (AreFirstAnswers rules s (alone text)) before now
    → WritesSaid end (HearsRead rules s s' text left) (AreAnswersToFirst rules s text) before now
said_alone rules s s' text left second before now Clean wrote = wrote
said_alone rules s s' text left second before now Refused wrote = wrote
said_alone rules s s' text left second before now ReadFault (said, heard, sent) = (said, read_alone rules s s' text left second said heard, sent)
said_alone rules s s' text left second before now WriteFault wrote = wrote
said_alone rules s s' text left second before now TurnsSpent wrote = wrote
said_alone rules s s' text left second before now NoMemory (said, first, sent) = (said, first_alone rules s text said first, sent)

pub all_said_alone : {S : Type 0} (rules : Rules S) (s s' : S) (input : Option (List ℕ)) (left second before now : Option (List ℕ)) (end : RunEnd)
    → IfSome (input_known input) (λ t. WritesSaid end (HearsAllRead rules s s' t left second) (AreFirstAnswers rules s t) before now)
    → IfSome input (λ text. WritesSaid end (HearsRead rules s s' text left) (AreAnswersToFirst rules s text) before now)
all_said_alone rules s s' None left second before now end wrote = tt
all_said_alone rules s s' (Some text) left second before now end wrote = said_alone rules s s' text left second before now end wrote

-- a second reader that wasn't there isn't there
pub counts_alone : {R M W : Type 0} (reader reader' : Counting R) (second' : Option (Counting M)) (writer writer' : Counting W) (end : RunEnd)
    → CountsRun {M = M} reader reader' None second' writer writer' end → CountsAlone reader reader' writer writer' end
counts_alone reader reader' None writer writer' end c =
    record { calls = c.calls; spent = c.spent; reads = c.reads; writes = c.writes; readers = refl }
counts_alone reader reader' (Some m) writer writer' end c = absurd (let w : true ≡ false = c.readers in cc)

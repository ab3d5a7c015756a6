-- Links that are taken out of a source's desk, step by step.
use Rattle.std.proofs.Common.{◌≡◌, ◌∙◌, ℕ, ◌+◌, ◌≤◌, ◌-◌, ◌^◌, List, [], ◌∷◌, ◌++◌, length, Option, Some, None, refl, sym, ap, subst, append_assoc, append-nil, arith, length-append}
use Rattle.std.proofs.lemmas.Grind.{flat_map-append}
use Rattle.std.specs.Prelude.{min}
use Rattle.ovs_authority.specs.declared.ask.Ask.{Ask}
use Rattle.ovs_types.specs.Schema.{SchemaValue}
use Rattle.ovs_types.specs.declared.schema.Table.{Table}
use Rattle.ovs_links.specs.Epochs.{IsEpochHistory, epochs_of, links_in}
use Rattle.ovs_links.specs.Store.{Stored, tables_of}
use Rattle.ovs_links.specs.declared.link.Link.{Link}
use Rattle.ovs_source.specs.Commits.{IsSourceOf}
use Rattle.ovs_source.specs.Replying.{KeepsSource}
use Rattle.ovs_source.specs.SourceDesk.{SourceDeskValue, AreBehind, AreFirst, KeepsTaken}
use Rattle.ovs_source.proofs.Desks.{same_behind}
use Rattle.ovs_wire.specs.declared.message.Message.{Message}
use Rattle.ovs_recorded_source.specs.Accounts.{link_taken}
use Rattle.ovs_recorded_source.specs.Steps.{SourceState, RecordedValue, AreSteps, Collects, Does, Ends, EndsWith, Gives, IsStep, Takes, begun}
use Rattle.ovs_recorded_source.specs.Taking.{AreTaken, IsRecord, LeavesInOrder, links_taken, taken_count}
use Rattle.ovs_recorded_source.specs.declared.step.SourceStep.{SourceStep}
use Rattle.ovs_recorded_source.specs.declared.step.SourceStep.TheVariants as steps
use Rattle.ovs_recorded_source.proofs.Keeping.{steps_keep}
use Rattle.ovs_recorded_source.proofs.Recording.{does_last}

-- ---- lists of steps

pub taken_more : (made : List SourceStep) (s : SourceStep) → links_taken (made ++ s ∷ []) ≡ links_taken made ++ link_taken s
taken_more made s =
    flat_map-append link_taken made (s ∷ []) ∙ ap (λ (ls : List Link). links_taken made ++ ls) (append-nil (link_taken s))

-- as many were taken out where a step took none
pub same_count : (old new : List SourceStep) (n : ℕ) → links_taken new ≡ links_taken old ++ [] → n ≡ taken_count old → n ≡ taken_count new
same_count old new n same is = is ∙ sym (ap (λ (ls : List Link). min (length ls) (2 ^ 64 - 1)) (same ∙ append-nil (links_taken old)))

-- one more, where a counter stays at its last value
pub one_more : (old new : List SourceStep) (l : Link) (n m : ℕ) → links_taken new ≡ links_taken old ++ l ∷ [] → n ≡ taken_count old → m ≡ min (n + 1) (2 ^ 64 - 1) → m ≡ taken_count new
one_more old new l n m same is next =
    let longer : length (links_taken new) ≡ length (links_taken old) + 1 = ap length same ∙ length-append (links_taken old) (l ∷ []) in omega arith

-- ---- steps

none_out : (d e : SourceState) → KeepsTaken d.desk e.desk → (taken : List Link) → AreBehind taken d.desk → AreBehind (taken ++ []) e.desk
none_out d e keeps taken b = subst (λ (ls : List Link). AreBehind ls e.desk) (sym (append-nil taken)) (keeps taken b)

kept : (d e : SourceDeskValue) → KeepsSource d e → KeepsTaken d e
kept d e same = same_behind d e (ap (λ (x : SourceDeskValue). x.source) same) (ap (λ (x : SourceDeskValue). x.unpublished) same)

pub asked_keeps : (session : ℕ) (ask : Ask) (reply : Message) (link : Option Link) (d e : SourceState) → KeepsTaken d.desk e.desk → LeavesInOrder (steps.Asked session ask reply link) d e
asked_keeps session ask reply link d e keeps = none_out d e keeps

pub began_keeps : (link : Link) (d e : SourceState) → KeepsTaken d.desk e.desk → LeavesInOrder (steps.BeganEpoch link) d e
began_keeps link d e keeps = none_out d e keeps

pub given_keeps : (session : ℕ) (reply : Message) (d e : SourceState) → Gives session d reply e → LeavesInOrder (steps.Given session reply) d e
given_keeps session reply d e gives =
    none_out d e (same_behind d.desk e.desk (ap (λ (x : SourceDeskValue). x.source) gives.desk) (ap (λ (x : SourceDeskValue). x.unpublished) gives.desk))

pub collected_keeps : (session : ℕ) (notice : Option Message) (d e : SourceState) → Collects session d notice e → LeavesInOrder (steps.Collected session notice) d e
collected_keeps session notice d e collects = none_out d e (kept d.desk e.desk collects.source)

pub ended_keeps : (session : ℕ) (d e : SourceState) → Ends session d e → LeavesInOrder (steps.Ended session) d e
ended_keeps session d e ends = none_out d e (kept d.desk e.desk ends.source)

pub took_keeps : (link : Option Link) (d e : SourceState) → Takes d link e → LeavesInOrder (steps.TookLink link) d e
took_keeps None d e takes taken b =
    none_out d e (same_behind d.desk e.desk (ap (λ (x : SourceDeskValue). x.source) takes.taken.1) (ap (λ (x : SourceDeskValue). x.unpublished) takes.taken.1)) taken b
took_keeps (Some l) d e takes taken b =
    let source : e.desk.source ≡ d.desk.source = ap (λ (x : SourceDeskValue). x.source) takes.taken.1 in
    record {
      history = b.history;
      of_source = subst (λ (s : Stored). IsSourceOf s b.history) (sym source) b.of_source;
      all = append_assoc taken (l ∷ []) e.desk.unpublished
          ∙ ap (λ (ls : List Link). taken ++ ls) (sym takes.taken.0)
          ∙ b.all
          ∙ ap (λ (s : Stored). links_in (tables_of s) (epochs_of b.history)) (sym source);
    }

-- one step more
pub recorded : (start : SourceDeskValue) (made : List SourceStep) (s : SourceStep) (d e : SourceState) → IsRecord start made d → Does s d e → LeavesInOrder s d e → IsRecord start (made ++ s ∷ []) e
recorded start made s d e is does keeps = record {
  run = does_last (begun start) d e made s is.run does;
  links = subst (λ (ls : List Link). AreBehind ls e.desk) (sym (taken_more made s)) (keeps (links_taken made) is.links);
}

-- ---- the history

-- what was taken out are its first links
pub are_first : (start : SourceDeskValue) (made : List SourceStep) (left : SourceState) → IsRecord start made left → AreFirst (tables_of start.source) (links_taken made)
are_first start made left is =
    let same = ap (λ (x : SchemaValue). x.description.tables) (steps_keep (begun start) made left is.run) in
    record {
      history = is.links.history;
      is = subst (λ (ts : List Table). IsEpochHistory ts is.links.history) same is.links.of_source.history;
      later = left.desk.unpublished;
      all = is.links.all ∙ ap (λ (ts : List Table). links_in ts (epochs_of is.links.history)) same;
    }

-- none are the first of any
pub none_taken : (start : SourceDeskValue) (tables : List Table) → AreTaken start tables []
none_taken start tables = record {
  made = [];
  run = (begun start, refl);
  all = refl;
  first = record {
    history = record { first = []; later = [] };
    is = record { first = record { distinct = tt; no_start = tt; commits = tt }; later = tt; distinct = tt };
    later = [];
    all = refl;
  };
}

-- ---- who takes all

none_left : (ls : List Link) → length ls ≡ 0 → ls ≡ []
none_left [] e = refl
none_left (l ∷ ls) e = absurd (omega arith)

module _ (start : SourceDeskValue) (known now : List SourceStep) (before after : RecordedValue) (l : Link) (is : IsStep start (steps.TookLink (Some l)) before after)
    (ends : EndsWith (steps.TookLink (Some l)) known now) (told : now ≡ after.steps) where
  all_steps : now ≡ before.steps ++ steps.TookLink (Some l) ∷ []
  all_steps = told ∙ is.recorded

  by_all : links_taken now ≡ links_taken before.steps ++ l ∷ []
  by_all = ap links_taken all_steps ∙ taken_more before.steps (steps.TookLink (Some l))

  by_known : links_taken now ≡ (links_taken known ++ links_taken ends.others) ++ l ∷ []
  by_known =
      ap links_taken ends.all
      ∙ taken_more (known ++ ends.others) (steps.TookLink (Some l))
      ∙ ap (λ (ls : List Link). ls ++ l ∷ []) (flat_map-append link_taken known ends.others)

  -- others took none where as many were taken out as are known
  pub one_taken : (n : ℕ) → n ≡ length (links_taken known) → n + 1 ≤ 2 ^ 64 - 1 → taken_count before.steps ≡ n → links_taken now ≡ links_taken known ++ l ∷ []
  one_taken n is_known room count =
      let a : length (links_taken now) ≡ length (links_taken before.steps) + 1 = ap length by_all ∙ length-append (links_taken before.steps) (l ∷ []) in
      let b : length (links_taken now) ≡ length (links_taken known ++ links_taken ends.others) + 1 = ap length by_known ∙ length-append (links_taken known ++ links_taken ends.others) (l ∷ []) in
      let d : length (links_taken known ++ links_taken ends.others) ≡ length (links_taken known) + length (links_taken ends.others) = length-append (links_taken known) (links_taken ends.others) in
      let none : links_taken ends.others ≡ [] = none_left (links_taken ends.others) (omega arith) in
      by_known ∙ ap (λ (ls : List Link). ls ++ l ∷ []) (ap (λ (ls : List Link). links_taken known ++ ls) none ∙ append-nil (links_taken known))

  pub are_taken : (tables : List Table) → AreFirst tables (links_taken after.steps) → AreTaken start tables (links_taken now)
  are_taken tables first = record {
    made = now;
    run = subst (AreSteps start) (sym all_steps) (after.state, does_last (begun start) before.state after.state before.steps (steps.TookLink (Some l)) is.made is.does);
    all = refl;
    first = subst (λ (made : List SourceStep). AreFirst tables (links_taken made)) (sym told) first;
  }

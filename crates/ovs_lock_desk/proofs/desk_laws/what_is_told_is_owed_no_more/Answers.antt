use Rattle.std.proofs.Common.{ℕ, List}
use Rattle.ovs_locks.specs.Lock.{name_told}
use Rattle.ovs_locks.proofs.Gathering.{first_given, gathered_same}
use Rattle.ovs_lock_desk.specs.RelayLock.{no_relay_lock, is_desk_idle, step}
use Rattle.ovs_lock_desk.specs.LockDesk.{answers_here, notices_here}
use Rattle.ovs_lock_desk.specs.declared.lock_state.LockEvent.TheVariants as events
use Rattle.ovs_lock_desk.specs.declared.pending_steal.PendingSteal.{PendingSteal}
use Rattle.ovs_lock_desk.proofs.DeskOwed.{answers_idle, notices_idle, named_answer, named_notice, answer_given, notice_given, answer_told_other, notice_told_other}
use Rattle.ovs_lock_desk.proofs.desk_laws.what_is_told_is_owed_no_more.Goals as goal

pub returns : goal.returns
returns c = record {
  answer = λ session old new first table is told.
      first_given is_desk_idle no_relay_lock (answers_here session) (λ (x : List ℕ × PendingSteal). x.0) (named_answer session) (answers_idle session) (step (events.AnswerTold session)) old new first
      table.ascend table.none_idle is (λ l. answer_given session first.0 l) told;
  notice = λ session old new first table is told.
      first_given is_desk_idle no_relay_lock (notices_here session) name_told (named_notice session) (notices_idle session) (step (events.NoticeTold session)) old new first
      table.ascend table.none_idle is (λ l. notice_given session (name_told first) l) told;
  other_answers = λ session other name old new apart told.
      gathered_same is_desk_idle no_relay_lock (answers_here other) (answers_idle other) name (step (events.AnswerTold session)) old new told (answer_told_other session name told.lock other apart);
  other_notices = λ session other name old new apart told.
      gathered_same is_desk_idle no_relay_lock (notices_here other) (notices_idle other) name (step (events.NoticeTold session)) old new told (notice_told_other session name told.lock other apart);
}

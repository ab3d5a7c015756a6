-- A relay's desk, and what it owes.
use Rattle.std.specs.Prelude.{ℕ, List, [], ◌++◌, ◌==◌, ◌&&◌, Bool, false, map, filter, Option}
use Rattle.serde_json.specs.Data.{Data}
use Rattle.ovs_authority.specs.Owing.{Owing}
use Rattle.ovs_locks.specs.Notices.{message_of}
use Rattle.ovs_lock_desk.specs.RelayLock.{desk_owner}
use Rattle.ovs_lock_desk.specs.LockDesk.{DeskValue, relay_lock_at, answers_to, notices_to, open_steals, stands_at}
use Rattle.ovs_lock_desk.specs.declared.pending_steal.PendingSteal.{PendingSteal}
use Rattle.ovs_desk.specs.declared.forwarded.Forwarded.{Forwarded}
use Rattle.ovs_desk.specs.declared.forwarded.RequestFilter.TheVariants.{Due}
use Rattle.ovs_desk.specs.Ledger.{Forwarding, is_open, passes}

-- the database's name, the requests that are passed on, the locks, and how many lock requests went up
pub record RelayValue : Type 0 where
  pub database : List ℕ
  pub forwards : Forwarding
  pub locks : DeskValue
  pub asked : ℕ

-- no request, no lock, and no source
abbrev pub new_desk : List ℕ → RelayValue
new_desk database = record {
  database = database;
  forwards = record { ledger = record { sent = 0; pending = [] }; used = 0; offered = 0 };
  locks = record { has_source = false; locks = [] };
  asked = 0;
}

abbrev pub with_forwards : RelayValue → Forwarding → RelayValue
with_forwards d f = record { database = d.database; forwards = f; locks = d.locks; asked = d.asked }

abbrev pub with_locks : RelayValue → DeskValue → RelayValue
with_locks d l = record { database = d.database; forwards = d.forwards; locks = l; asked = d.asked }

-- ---- what is owed

-- a session's request that waits for its answer
abbrev pub is_open_of : ℕ → Forwarded → Bool
is_open_of session e = (e.asker == session) && is_open e.state

abbrev pub ids_of : List Forwarded → List Data
ids_of es = map (λ (e : Forwarded). e.id) es

abbrev pub late_id : List ℕ × PendingSteal → Data
late_id a = a.1.id

-- transactions, and then steals; the notices go after the answers to both
abbrev pub owing_of : RelayValue → ℕ → Owing
owing_of d session = record {
  waiting = ids_of (filter (is_open_of session) d.forwards.ledger.pending) ++ open_steals session d.locks.locks;
  known = ids_of (filter (passes (Due session)) d.forwards.ledger.pending) ++ map late_id (answers_to session d.locks.locks);
  notices = map message_of (notices_to session d.locks.locks);
  stands = stands_at session d.locks.locks;
}

-- the session that owns the lock of a name
abbrev pub owner_of : RelayValue → List ℕ → Option ℕ
owner_of d name = desk_owner (relay_lock_at name d.locks.locks)

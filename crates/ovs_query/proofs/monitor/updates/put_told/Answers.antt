use Rattle.std.proofs.Common.{◌≡◌, map, ap, subst, sym, ◌∙◌}
use Rattle.std.specs.Prelude.{OnOk, IfSome, fold}
use Rattle.std.specs.List.{AllByRecursion, filter_map}
use Rattle.serde_json.specs.Data.{no_members}
use Rattle.serde_json.specs.View.{members_view}
use Rattle.ovs_rows.specs.Applied.{seen}
use Rattle.ovs_rows.specs.ChangeWriting.{with_some}
use Rattle.ovs_rows.specs.Writing.{with_member}
use Rattle.ovs_query.specs.Telling.{told_member, told_members, touched_in, IsTellable}
use Rattle.ovs_query.proofs.Members.{table_put}
use Rattle.ovs_query.proofs.monitor.updates.put_told.Goals as goal

pub told_rows-requires : goal.told_rows-requires
told_rows-requires c =
    let known = subst (λ o. IfSome o (λ w. AllByRecursion (IsTellable c.args.notation w) (touched_in c.args.number (map seen c.args.applied.now)))) c.in-Some.is c.requires.tellable in
    record { tellable = subst (AllByRecursion (IsTellable c.args.notation c.in-Some.watched)) (sym c.rows_of_table-rows.ensures.value) known }

pub returns-in_ok-told-in-Some-clause-value : goal.returns-in_ok-told-in-Some-clause-value
returns-in_ok-told-in-Some-clause-value c =
    subst (λ o. OnOk c.put_table.result (members_view c.put_table.new.members.entries ≡ with_some (members_view c.args.members.now.entries) o))
    (table_put (told_members c.args.notation (map seen c.args.applied.now)) c.args.number c.args.watched.now _ _ c.in-Some.is
    (c.in_ok-told-in-Some.ensures.value ∙ ap (λ ts. fold with_member no_members (filter_map (told_member c.args.notation c.in-Some.watched) ts)) c.rows_of_table-rows.ensures.value))
    c.put_table.ensures.value

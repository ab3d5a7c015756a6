use Rattle.std.proofs.Common.{◌≡◌, ◌∙◌, subst, IfOk}
use Rattle.std.specs.String.{string_bytes}
use Rattle.ovs_links.specs.Store.{Stored}
use Rattle.ovs_fold_script.specs.Closing.{end_text}
use Rattle.ovs_fold_script.proofs.stores.OneStore.close.Goals as goal

pub returns-clause-text : goal.returns-clause-text
returns-clause-text c =
    subst (λ (s : Stored). IfOk c.close_store.result (λ closing. string_bytes closing.text ≡ end_text s))
    (c.deref_mut.ensures.value ∙ c.self.view_is) c.close_store.ensures.text

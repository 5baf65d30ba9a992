-- `set_up::add_keys` meets its contract: it goes the rule's way, key by key.
use Rattle.set_up.proofs.Keys.{keys_go}
use Rattle.set_up.proofs.add_keys.Goals as goal

pub returns : goal.returns
returns c =
    keys_go _ _ _ _ _ _ _ _ _ _ c.create-secret.ensures.entry (rw c.key_of.ensures at c.create-secret.ensures.table) c.secret_holder.ensures c.grant.ensures
    c.create-public.ensures.entry (rw c.key_of-2.ensures at c.create-public.ensures.table) c.grant_public.ensures

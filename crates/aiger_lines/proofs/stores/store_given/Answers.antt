-- `store_given` meets its contract. Assumes nothing.
use Rattle.aiger_lines.proofs.StoreLaws.{stores_none, stores_one, stores_two}
use Rattle.aiger_lines.proofs.stores.store_given.Goals as goal

pub returns-in-None : goal.returns-in-None
returns-in-None c = stores_none _ _ _ c.in-None.is

pub returns-in-One : goal.returns-in-One
returns-in-One c =
    stores_one _ _ _ c.in-One.is c.store.ensures

pub returns-in-Two : goal.returns-in-Two
returns-in-Two c =
    stores_two _ _ _ c.in-Two.is c.store_pair.ensures

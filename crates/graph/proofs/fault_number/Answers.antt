-- `graph::fault_number` meets its contract. Assumes nothing.
use Rattle.graph.specs.Reading.{fault_number}
use Rattle.graph.proofs.fault_number.Goals as goal

pub returns-in-WrongShape : goal.returns-in-WrongShape
unfolding fault_number
returns-in-WrongShape c = rw c.in-WrongShape.is

pub returns-in-WrongOrder : goal.returns-in-WrongOrder
unfolding fault_number
returns-in-WrongOrder c = rw c.in-WrongOrder.is

pub returns-in-TooMany : goal.returns-in-TooMany
unfolding fault_number
returns-in-TooMany c = rw c.in-TooMany.is

pub returns-in-NameRepeated : goal.returns-in-NameRepeated
unfolding fault_number
returns-in-NameRepeated c = rw c.in-NameRepeated.is

pub returns-in-UnknownVertex : goal.returns-in-UnknownVertex
unfolding fault_number
returns-in-UnknownVertex c = rw c.in-UnknownVertex.is

pub returns-in-NotFormula : goal.returns-in-NotFormula
unfolding fault_number
returns-in-NotFormula c = rw c.in-NotFormula.is

pub returns-in-TooDeep : goal.returns-in-TooDeep
unfolding fault_number
returns-in-TooDeep c = rw c.in-TooDeep.is

pub returns-in-UnknownName : goal.returns-in-UnknownName
unfolding fault_number
returns-in-UnknownName c = rw c.in-UnknownName.is

pub returns-in-WrongWidth : goal.returns-in-WrongWidth
unfolding fault_number
returns-in-WrongWidth c = rw c.in-WrongWidth.is

-- The numbers of faults, and the clause and the variable that they name.
use Rattle.std.specs.Prelude.{ℕ, Option, Some, None}
use Rattle.mspec_syntax.specs.declared.fault.SpecFault.{SpecFault}
use Rattle.mspec_syntax.specs.declared.fault.SpecFault.TheVariants as fault

-- the number that programs print for a fault
abbrev pub number_of : SpecFault → ℕ
number_of fault.Memory = 1
number_of fault.NotAList = 10
number_of (fault.NotAClause clause) = 11
number_of (fault.BadHead clause) = 12
number_of (fault.BadConditions clause) = 13
number_of (fault.BadBody clause) = 14
number_of (fault.UnknownCall clause) = 15
number_of (fault.BadVariableName clause) = 17
number_of (fault.BadExpression clause) = 18
number_of (fault.VariableInMapKey clause) = 19
number_of (fault.Unbound clause variable) = 16
number_of fault.TooLarge = 20

-- the number of the clause with the fault, None if it is not in a clause
abbrev pub clause_of : SpecFault → Option ℕ
clause_of fault.Memory = None
clause_of fault.NotAList = None
clause_of (fault.NotAClause clause) = Some clause
clause_of (fault.BadHead clause) = Some clause
clause_of (fault.BadConditions clause) = Some clause
clause_of (fault.BadBody clause) = Some clause
clause_of (fault.UnknownCall clause) = Some clause
clause_of (fault.BadVariableName clause) = Some clause
clause_of (fault.BadExpression clause) = Some clause
clause_of (fault.VariableInMapKey clause) = Some clause
clause_of (fault.Unbound clause variable) = Some clause
clause_of fault.TooLarge = None

-- the number of the variable that is not bound, None for any other fault
abbrev pub variable_of : SpecFault → Option ℕ
variable_of (fault.Unbound clause variable) = Some variable
variable_of f = None

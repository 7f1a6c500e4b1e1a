-- The number and the name under which each refusal is printed.
use Rattle.std.specs.Prelude.{ℕ, List, codes}
use Rattle.tg_base.specs.declared.place.Code.{Code}
use Rattle.tg_base.specs.declared.place.Code.TheVariants.{NotText, Lex, Directive, Syntax, TooDeep, Limit, Name, Constant, Typing, Unsupported, Package, NotBuilt}

abbrev pub number_of : Code → ℕ
number_of NotText = 10
number_of Lex = 11
number_of Directive = 12
number_of Syntax = 13
number_of TooDeep = 14
number_of Limit = 15
number_of Name = 16
number_of Constant = 17
number_of Typing = 18
number_of Unsupported = 19
number_of Package = 20
number_of NotBuilt = 21

abbrev pub name_of : Code → List ℕ
name_of NotText = codes "NotText"
name_of Lex = codes "Lex"
name_of Directive = codes "Directive"
name_of Syntax = codes "Syntax"
name_of TooDeep = codes "TooDeep"
name_of Limit = codes "Limit"
name_of Name = codes "Name"
name_of Constant = codes "Constant"
name_of Typing = codes "Type"
name_of Unsupported = codes "Unsupported"
name_of Package = codes "Package"
name_of NotBuilt = codes "NotBuilt"

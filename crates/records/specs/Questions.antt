-- What a record asks: the first four of its numbers.
use Rattle.std.specs.Prelude.{ℕ, List, [], ◌∷◌}
use Rattle.records.specs.declared.Question.{Question}
use Rattle.records.specs.declared.Question.TheVariants.{Parse, Range, Attribute, Text, Id, Class, Selector, Query, Below}
use Rattle.records.specs.declared.Question.TheVariants.{Attributes, Texts, Names, SetWord, SetByte, AttributeOr, AttributeOrPart}

abbrev pub numbers_of : Question → List ℕ
numbers_of (Parse words times) = 1 ∷ words ∷ times ∷ 0 ∷ []
numbers_of (Range handle) = 2 ∷ handle ∷ 0 ∷ 0 ∷ []
numbers_of (Attribute handle) = 3 ∷ handle ∷ 0 ∷ 0 ∷ []
numbers_of (Text handle room) = 4 ∷ handle ∷ room ∷ 0 ∷ []
numbers_of (Id manner view) = 5 ∷ manner ∷ view ∷ 0 ∷ []
numbers_of (Class manner room view) = 6 ∷ manner ∷ room ∷ view ∷ []
numbers_of (Selector room) = 7 ∷ 0 ∷ room ∷ 0 ∷ []
numbers_of (Query view room) = 8 ∷ view ∷ room ∷ 0 ∷ []
numbers_of (Below handle room view) = 9 ∷ handle ∷ room ∷ view ∷ []
numbers_of (Attributes handles room) = 10 ∷ handles ∷ room ∷ 0 ∷ []
numbers_of (Texts handles room ends) = 11 ∷ handles ∷ room ∷ ends ∷ []
numbers_of (SetWord place value) = 12 ∷ place ∷ value ∷ 0 ∷ []
numbers_of (Names handles room names) = 13 ∷ handles ∷ room ∷ names ∷ []
numbers_of (SetByte place value) = 14 ∷ place ∷ value ∷ 0 ∷ []
numbers_of (AttributeOr handle size) = 15 ∷ handle ∷ size ∷ 0 ∷ []
numbers_of (AttributeOrPart handle from to) = 16 ∷ handle ∷ from ∷ to ∷ []

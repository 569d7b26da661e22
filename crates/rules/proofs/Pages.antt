-- The rules answer for each of the checked pages (specs/Pages.antt) what the table says.
use Rattle.std.specs.Prelude.{◌≡◌, refl}
use Rattle.rules.specs.Pages.{pages}
use Rattle.rules.specs.Questions.{answers, said}
use Rattle.rules.specs.Scan.{span, agree}
use Rattle.rules.specs.Lists.{from, only, each}
use Rattle.rules.specs.Names.{one_of}
use Rattle.rules.specs.Profile.{limit_of, white_of, void_name, void_of, name_byte_fine, name_fine, numbers_fine, profile_fine}
use Rattle.rules.specs.Attributes.{attribute_at, attribute_next, attributes_end}
use Rattle.rules.specs.Lexer.{comment_end, bang, tag, closing, markup, item_at}
use Rattle.rules.specs.Reader.{close_into, put, step, steps, with_last}
use Rattle.rules.specs.Table.{node_at, filled}
use Rattle.rules.specs.Sound.{all, reaching}
use Rattle.rules.specs.Lookup.{attributes, first_of, last_of, lookup_from, answer}
use Rattle.rules.specs.Words.{gap, words_from, times, contains}
use Rattle.rules.specs.Selector.{operand_at, attribute_from, simple_at}
use Rattle.rules.specs.Chain.{selector_at, chain_at, written}
use Rattle.rules.specs.Query.{meaning}
use Rattle.rules.specs.Answers.{parse_answer, parse_table, range_answer, attribute_answer, attribute_part, id_answer, selector_answer}
use Rattle.rules.specs.Answers.{selector_buffer, query_answer, query_buffer}

-- the rules answer what the examples say
checked_pages : answers pages ≡ said pages
unfolding span agree from only each one_of attribute_at attribute_next attributes_end comment_end bang tag closing markup item_at close_into put step
    steps with_last node_at filled all reaching attributes first_of last_of lookup_from answer gap words_from times contains operand_at
    attribute_from simple_at selector_at chain_at written meaning parse_answer parse_table range_answer attribute_answer attribute_part id_answer
    selector_answer selector_buffer query_answer query_buffer limit_of white_of void_name void_of name_byte_fine name_fine numbers_fine profile_fine
checked_pages = refl

use Rattle.std.proofs.Common.{arith}
use Rattle.std.specs.Fmt.{decimal}
use Rattle.std.proofs.lemmas.Fmt.{length-decimal-le}
use Rattle.operation_text.specs.Texts.{hexadecimal}
use Rattle.operation_text.proofs.DigitLemmas.{hexadecimal-short}
use Rattle.operation_text.proofs.ReadBackLemmas.{decimal-reads, hexadecimal-reads, decimal-word, hexadecimal-word, word-first, word-alone}
use Rattle.operation_text.proofs.OpLemmas.{numeral-range, own-digits, printed-word}
use Rattle.operation_text.proofs.laws.own_digits_spell_number.Goals as goal

pub returns-clause-range : goal.returns-clause-range
returns-clause-range c = λ radix most n word. numeral-range radix most n word

pub returns-clause-decimal : goal.returns-clause-decimal
returns-clause-decimal c = decimal-reads

pub returns-clause-one_word : goal.returns-clause-one_word
returns-clause-one_word c = own-digits

pub returns-clause-hexadecimal : goal.returns-clause-hexadecimal
returns-clause-hexadecimal c = hexadecimal-reads

pub returns-clause-decimal_word : goal.returns-clause-decimal_word
returns-clause-decimal_word c = λ n line. word-first (decimal n) line (decimal-word n)

pub returns-clause-decimal_last : goal.returns-clause-decimal_last
returns-clause-decimal_last c = λ n. word-alone (decimal n) (decimal-word n)

pub returns-clause-hexadecimal_word : goal.returns-clause-hexadecimal_word
returns-clause-hexadecimal_word c = λ n line. word-first (hexadecimal n) line (hexadecimal-word n)

pub returns-clause-printed : goal.returns-clause-printed
returns-clause-printed c = λ n. (printed-word (decimal n) (decimal-word n), printed-word (hexadecimal n) (hexadecimal-word n))

pub returns-clause-short : goal.returns-clause-short
returns-clause-short c = λ n h. (length-decimal-le 20 n (omega arith) (omega arith) h, hexadecimal-short n h)

-- `matching::values::Candidate::fits` meets its contract: each comparison is what its variant means, and a value that passes has the text within.
use Rattle.std.proofs.Common.{rules}
use Rattle.rules.specs.Query.{span_text}
use Rattle.rules.specs.Scan.{same}
use Rattle.rules.specs.Words.{unicode_white, has_word, begins, ends, contains}
use Rattle.rules.proofs.Within.{same_within, begins_within, ends_within, contains_within}
use Rattle.matching.proofs.Openings.{passes_none, word_none}
use Rattle.matching.proofs.values.Candidate.fits.Goals as goal

pub returns-in-Id : goal.returns-in-Id
returns-in-Id c =
    let k = c.text-in-Id.result.now in
    rw (c.in-Id.is, ← c.text-in-Id.ensures) (c.has_value.ensures (λ v. same v k) (λ v b e. search rules) (passes_none k _ (same_within k)))

pub returns-in-AttributeValue : goal.returns-in-AttributeValue
returns-in-AttributeValue c =
    let k = span_text c.args.s.now c.in-AttributeValue.b in
    rw c.in-AttributeValue.is (c.compare.ensures (λ v. same v k) (λ v b e. search rules) (passes_none k _ (same_within k)))

pub returns-in-AttributeValueWhitespacedContains : goal.returns-in-AttributeValueWhitespacedContains
returns-in-AttributeValueWhitespacedContains c =
    let k = span_text c.args.s.now c.in-AttributeValueWhitespacedContains.b in
    rw c.in-AttributeValueWhitespacedContains.is
    (c.compare-in-AttributeValueWhitespacedContains.ensures (has_word unicode_white k) (λ v b e. search rules) (word_none k unicode_white))

pub returns-in-AttributeValueStartsWith : goal.returns-in-AttributeValueStartsWith
returns-in-AttributeValueStartsWith c =
    let k = span_text c.args.s.now c.in-AttributeValueStartsWith.b in
    rw c.in-AttributeValueStartsWith.is (c.compare-in-AttributeValueStartsWith.ensures (begins k) (λ v b e. search rules) (passes_none k _ (begins_within k)))

pub returns-in-AttributeValueEndsWith : goal.returns-in-AttributeValueEndsWith
returns-in-AttributeValueEndsWith c =
    let k = span_text c.args.s.now c.in-AttributeValueEndsWith.b in
    rw c.in-AttributeValueEndsWith.is (c.compare-in-AttributeValueEndsWith.ensures (ends k) (λ v b e. search rules) (passes_none k _ (ends_within k)))

pub returns-in-AttributeValueSubstring : goal.returns-in-AttributeValueSubstring
returns-in-AttributeValueSubstring c =
    let k = span_text c.args.s.now c.in-AttributeValueSubstring.b in
    rw c.in-AttributeValueSubstring.is (c.compare-in-AttributeValueSubstring.ensures (contains k) (λ v b e. search rules) (passes_none k _ (contains_within k)))

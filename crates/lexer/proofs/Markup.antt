-- What stands at a place: one law for each answer of the code. r is what the function answered that was called there.
use mathlib.Core.Path.{◌≡◌, ◌∙◌}
use mathlib.Core.Bool.{Bool, true, false, ◌&&◌}
use mathlib.Core.List.{List}
use Prim.Native.Nat.{ℕ, suc, ◌+◌, ◌-◌, ◌≤◌, ◌<◌, pred}
use native.Mathlib.Omega.{arith}
use lib.ListN.{length}
use borrow.Author.Tests.{lt-ltb, le-ltb, eq-eqb, ne_eqb}
use Rattle.rules.specs.Bytes.{is_ident, other, is}
use Rattle.rules.specs.Scan.{skip, here, pass}
use Rattle.rules.specs.Attributes.{attributes_end}
use Rattle.rules.specs.Lexer.{comment_end, comment_to, declaration_from, tag_to, closing, bang, tag, markup, item_at}
use Rattle.rules.specs.declared.Item.{Item}
use Rattle.rules.specs.declared.Item.TheVariants.{Text, Nothing}
use Rattle.rules.proofs.Places.{here_false, here_below, pass_in, Read}

module _ (white : ℕ → Bool) (p : List ℕ) where
  -- ---- a tag, whose attributes end at a; x says whether a `/` stands there
  module _ (at : ℕ) {e a : ℕ} {x : Bool} {r : Item} (ee : e ≡ skip is_ident p at) (ea : a ≡ attributes_end white (length p) p e)
      (ex : x ≡ here (is 47) p a) where
    pub tag_slash : x ≡ true → r ≡ tag_to p at e (a + 1) true → r ≡ tag white p at
    unfolding tag
    tag_slash y q =
        let n : pass p a ≡ a + 1 = pass_in p a (here_below (is 47) p a x ex y) in
        q ∙ rw (← ee, ← ea, ← ex, y, n)

    pub tag_plain : x ≡ false → r ≡ tag_to p at e a false → r ≡ tag white p at
    unfolding tag
    tag_plain y q = q ∙ rw (← ee, ← ea, ← ex, y)

  -- ---- what follows `<!`; x says whether `--` follows the `!`
  module _ {at : ℕ} (h : at < length p) {x : Bool} {r : Item} (ex : x ≡ (here (is 45) p (at + 1) && here (is 45) p (suc (at + 1)))) where
    pub bang_comment : x ≡ true → r ≡ comment_to p (at - 1) (comment_end (length p) p (at + 1)) → r ≡ bang white p at
    unfolding bang
    bang_comment b q = let d : pred at ≡ at - 1 = omega arith in q ∙ rw (pass_in p at h, ← ex, b, d)

    pub bang_other : x ≡ false → r ≡ declaration_from white p (at + 1) (skip is_ident p (at + 1)) (skip white p (skip is_ident p (at + 1)))
        → r ≡ bang white p at
    unfolding bang
    bang_other b q = q ∙ rw (pass_in p at h, ← ex, b)

  -- ---- what follows a `<` at `at`, with white up to q
  module _ {at q : ℕ} (h : at < length p) (eq : q ≡ skip white p (at + 1)) where
    after_white : {r : Item} → r ≡ markup white p q → r ≡ markup white p (skip white p (pass p at))
    after_white x = rw (pass_in p at h, ← eq) x

    pub markup_end : length p ≤ q → Nothing q ≡ markup white p (skip white p (pass p at))
    unfolding markup
    markup_end l = after_white (rw (here_false (is 47) p q l, here_false (is 33) p q l, le-ltb q (length p) l))

    module _ {b : ℕ} (R : Read p q b) {r : Item} where
      pub markup_close : b ≡ 47 → r ≡ closing p (q + 1) → r ≡ markup white p (skip white p (pass p at))
      unfolding markup
      markup_close e x = after_white (x ∙ rw (R.tests (is 47), eq-eqb b 47 e, pass_in p q R.below))

      module _ (n : b ≡ 47 → ⊥) where
        pub markup_bang : b ≡ 33 → r ≡ bang white p q → r ≡ markup white p (skip white p (pass p at))
        unfolding markup
        markup_bang e x = after_white (x ∙ rw (R.tests (is 47), ne_eqb b 47 n, R.tests (is 33), eq-eqb b 33 e))

        pub markup_tag : (b ≡ 33 → ⊥) → r ≡ tag white p q → r ≡ markup white p (skip white p (pass p at))
        unfolding markup
        markup_tag m x =
            after_white (x ∙ rw (R.tests (is 47), ne_eqb b 47 n, R.tests (is 33), ne_eqb b 33 m, lt-ltb q (length p) R.below))

  -- ---- any item; x says whether a `<` stands at the place
  module _ (at : ℕ) {x : Bool} (ex : x ≡ here (is 60) p at) where
    pub item_markup : {r : Item} → x ≡ true → r ≡ markup white p (skip white p (pass p at)) → r ≡ item_at white p at
    unfolding item_at
    item_markup y q = q ∙ rw (← ex, y)

    pub item_text : {e : ℕ} → x ≡ false → e ≡ skip (other 60) p at → Text e ≡ item_at white p at
    unfolding item_at
    item_text y q = rw (← ex, y, q)

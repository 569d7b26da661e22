-- What is asked, and what is written for it: seven bytes of input tell; and no more bytes than the longest page has are written.
use Prim.Native.Nat.{ℕ, suc, ◌+◌, ◌≤◌}
use native.Mathlib.Omega.{arith}
use native.Mathlib.Decide.{dec_le}
use mathlib.Core.Bool.{Bool, true, false, ◌&&◌, and-false}
use mathlib.Core.Path.{◌≡◌, refl, sym, ap, ◌∙◌}
use mathlib.Core.List.{List, ◌++◌}
use lib.Dec.{leb}
use lib.ListN.{length, take, drop, length-take}
use lib.Seq.{take_all}
use borrow.Author.Tests.{leb-true, lt-leb, ne_eqb}
use Rattle.rules.specs.Bytes.{is}
use Rattle.rules.specs.Scan.{pick, here}
use Rattle.rules.specs.Buffers.{Wrote}
use Rattle.rules.specs.Profile.{page_limit, tl_profile}
use Rattle.rules.proofs.Profile.{fine_tl, limit_tl}
use Rattle.std.proofs.lemmas.Bool.{and_parts}
use Rattle.decimal.specs.Digits.{number_at}
use Rattle.std.proofs.Common.{Option, Some, None}
use Rattle.std.specs.Option.{option_and_then}
use Rattle.maxnodes.specs.Bound.{densest}
use Rattle.fullpage.specs.Asked.{input_ends, asked_by, asked_length, FullPage}
use Rattle.maxnodes.proofs.Attained.{cycle_length, node_bound}

-- ---- what is asked for

pub asked_short : (s : List ℕ) (n : ℕ) → asked_length s ≡ Some n → n ≤ page_limit
unfolding asked_length
asked_short s n e = by (number_at s 0) e
  where
    test : (m end : ℕ) (b : Bool) → (leb end 5 && leb m page_limit && input_ends s end) ≡ b → pick b (Some m) None ≡ Some n → n ≤ page_limit
    test m end true t q =
        let l : leb m page_limit ≡ true = (and_parts (leb end 5) (leb m page_limit) (and_parts (leb end 5 && leb m page_limit) (input_ends s end) t).0).1 in
        let z : m ≡ n = cc in omega (arith, leb-true m page_limit l)
    test m end false t q = cc

    by : (x : Option (ℕ × ℕ)) → option_and_then (asked_by s) x ≡ Some n → n ≤ page_limit
    by (Some x) q = test x.0 x.1 (leb x.1 5 && leb x.0 page_limit && input_ends s x.1) refl q
    by None q = cc

long_refused : (s : List ℕ) → 7 ≤ length s → asked_length s ≡ None
unfolding asked_length
long_refused s l = by (number_at s 0)
  where
    test : (x : ℕ × ℕ) → Dec (x.1 ≤ 5) → asked_by s x ≡ None
    test x (yes h) =
        let end = x.1 in
        rw (ne_eqb end (length s) (λ e. omega arith), ne_eqb (suc end) (length s) (λ e. omega arith), and-false (here (is 10) s end), and-false)
    test x (no h) = rw (lt-leb x.1 5 (omega arith))

    by : (x : Option (ℕ × ℕ)) → option_and_then (asked_by s) x ≡ None
    by (Some x) = test x (dec_le x.1 5)
    by None = refl

seven : (s : List ℕ) → asked_length (take 7 s) ≡ asked_length s
seven s = go (dec_le 7 (length s))
  where
    go : Dec (7 ≤ length s) → asked_length (take 7 s) ≡ asked_length s
    go (yes h) = long_refused (take 7 s) (simp length-take (omega arith)) ∙ sym (long_refused s h)
    go (no h) = ap asked_length (take_all 7 s (omega arith))

pub full_page : FullPage
full_page =
    record {
      page = λ s n e. rw e (node_bound.attained tl_profile fine_tl n (rw limit_tl (asked_short s n e)));
      seven = seven;
    }

-- ---- what is written

-- the page has room
pub room_for : (s out : List ℕ) (n : ℕ) → asked_length s ≡ Some n → page_limit ≤ length out → n ≡ length (take n out)
room_for s out n e l = omega (arith, asked_short s n e, length-take n out)

-- the first n bytes of the buffer are filled
pub page_put : (out part : List ℕ) (n : ℕ) → part ≡ densest n → Wrote out 0 (densest n) (part ++ drop n out) n
page_put out part n e =
    let m : 0 + length (densest n) ≡ n = omega (arith, cycle_length 97 n) in
    record { buffer = rw (e, m); next = sym m }

-- Profiles: what the test of a profile tells; and tl's profile passes it, with tl's white and void tests.
use mathlib.Core.Path.{◌≡◌, refl, ap, ◌∙◌}
use mathlib.Core.Bool.{Bool, true, false, ◌||◌, or-false}
use mathlib.Core.List.{List, [], ◌∷◌, ◌++◌, map}
use Prim.Native.Nat.{ℕ, zero, suc, ◌+◌, ◌-◌, ◌≤◌, ◌<◌}
use native.Mathlib.Omega.{arith}
use lib.Dec.{eqb, eqb-suc-zero}
use lib.ListN.{length, get_or, take, drop, length-take, replicate}
use lib.Seq.{get_or-take, get_or-drop}
use borrow.Author.Tests.{leb-true, lt-ltb, ne_eqb}
use Rattle.rules.specs.Bytes.{is_white, other}
use Rattle.rules.specs.Scan.{span, skip, agree, same}
use Rattle.rules.specs.Lists.{from}
use Rattle.rules.specs.Names.{one_of, is_void, void_names}
use Rattle.rules.specs.Sound.{all}
use Rattle.rules.specs.Profile.{page_limit, limit_of, white_of, name_start, name_byte, void_name, void_of, name_byte_fine, name_fine}
use Rattle.rules.specs.Profile.{numbers_fine, profile_fine, tl_profile, Settings, settings_of, base, AsWithout}
use Rattle.rules.proofs.Sound.{all_true, and_iff}

-- ---- tl's profile

pub fine_tl : profile_fine tl_profile ≡ true
unfolding profile_fine numbers_fine name_fine name_byte_fine limit_of all
fine_tl = refl

pub limit_tl : limit_of tl_profile ≡ page_limit
unfolding limit_of
limit_tl = refl

white_at : (b : ℕ) → white_of tl_profile b ≡ is_white b
unfolding white_of
white_at zero = refl
white_at (suc b) = simp (eqb-suc-zero, or-false)

pub white_tl : white_of tl_profile ≡ is_white
white_tl = λ i b. white_at b i

-- the 15 names, and 9 places that are empty
names_tl : map (void_name tl_profile) (from 0 24) ≡ void_names ++ replicate 9 []
unfolding void_name span from
names_tl = refl

-- a name that is not empty is no empty place
no_empty : (x : ℕ) (xs : List ℕ) (k : ℕ) (ns : List (List ℕ)) → one_of (x ∷ xs) (ns ++ replicate k []) ≡ one_of (x ∷ xs) ns
unfolding one_of agree
no_empty x xs zero [] = refl
no_empty x xs (suc k) [] = no_empty x xs k []
no_empty x xs k (n ∷ ns) = ap (λ (b : Bool). same (x ∷ xs) n || b) (no_empty x xs k ns)

void_at : (xs : List ℕ) → void_of tl_profile xs ≡ is_void xs
unfolding void_of one_of agree
void_at [] = refl
void_at (x ∷ xs) = rw (lt-ltb 0 (suc (length xs)) (omega arith), names_tl) (no_empty x xs 9 void_names)

pub void_tl : void_of tl_profile ≡ is_void
void_tl = λ i xs. void_at xs i

pub as_without : AsWithout
as_without = rw (fine_tl, limit_tl, white_tl, void_tl)

-- every answer
pub answers_as_without : {A : Type 0} (answer : Settings → A) → answer (settings_of tl_profile) ≡ answer base
answers_as_without answer = ap answer as_without

-- ---- what the test tells

pub record FineProfile (q : List ℕ) : Type 0 where
  pub some : 1 ≤ limit_of q
  pub limit : limit_of q ≤ page_limit
  pub white4 : get_or q 4 0 ≤ 32
  pub white5 : get_or q 5 0 ≤ 32
  pub white6 : get_or q 6 0 ≤ 32
  pub white7 : get_or q 7 0 ≤ 32
  pub names : (i j : ℕ) → i < 24 → j < 16 → name_byte_fine q i j ≡ true

module _ (q : List ℕ) where
  pub fine_facts : profile_fine q ≡ true → FineProfile q
  unfolding profile_fine numbers_fine name_fine
  fine_facts e =
      let p = simp and_iff at e in
      record {
        some = leb-true 1 (limit_of q) p.0.0.0;
        limit = leb-true (limit_of q) page_limit p.0.0.1;
        white4 = leb-true (get_or q 4 0) 32 p.0.1.0.0.0;
        white5 = leb-true (get_or q 5 0) 32 p.0.1.0.0.1;
        white6 = leb-true (get_or q 6 0) 32 p.0.1.0.1;
        white7 = leb-true (get_or q 7 0) 32 p.0.1.1;
        names = λ i j l m. all_true (name_byte_fine q i) 16 j (all_true (name_fine q) 24 i p.1 l) m;
      }

-- a byte above the space is not white
pub white_below : (q : List ℕ) → profile_fine q ≡ true → (b : ℕ) → 32 < b → white_of q b ≡ false
unfolding white_of
white_below q e b l =
    let F = fine_facts q e in
    let high : (x : ℕ) → x ≤ 32 → eqb b x ≡ false = λ x m. ne_eqb b x (λ z. omega arith) in
    rw (high 0 (omega arith), high (get_or q 4 0) F.white4, high (get_or q 5 0) F.white5, high (get_or q 6 0) F.white6, high (get_or q 7 0) F.white7)

-- ---- a name's bytes are those of its place

pub name_byte_lem : (q : List ℕ) (i j : ℕ) → j < length (void_name q i) → get_or (void_name q i) j 0 ≡ name_byte q i j
unfolding void_name
name_byte_lem q i j l =
    let s : ℕ = name_start q i in
    let n : ℕ = skip (other 0) (take (s + 16) q) s - s in
    get_or-take n (drop s q) j 0 (omega (arith, l, length-take n (drop s q))) ∙ get_or-drop s q j 0

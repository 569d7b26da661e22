-- What is made of a profile once a call, and lent down: where to look for a name.
use Rattle.std.specs.Prelude.{◌≡◌, Bool, true, false, List, ℕ, suc, ◌+◌, ◌*◌, ◌-◌, ◌%◌, ◌≤◌, ◌<◌, eqb, length, get_or}
use Rattle.rules.specs.Sound.{all}
use Rattle.rules.specs.Profile.{void_name, tl_profile}
use Rattle.profile.specs.declared.names.Heads.{Heads}

-- k bytes of p from a on are those of q from c on
abbrev pub same_run : List ℕ → ℕ → List ℕ → ℕ → ℕ → Bool
same_run p a q c k = all (λ (j : ℕ). eqb (get_or p (a + j) 0) (get_or q (c + j) 0)) k

-- a number below 256 for a name, by its first byte, its last and its length; chosen so that with tl's names few other names share one
abbrev pub slot_by : ℕ → ℕ → ℕ → ℕ
slot_by first last n = (9 * first + last + 5 * (n % 256)) % 256

abbrev pub void_slot : List ℕ → ℕ
void_slot xs = slot_by (get_or xs 0 0) (get_or xs (length xs - 1) 0) (length xs)

-- A slot and a link hold the number of a name plus 1, or 0.

-- from what a slot or a link holds one comes to name k by the links
pub data Leads : List ℕ → ℕ → ℕ → Type 0 where
  here : {links : List ℕ} {k : ℕ} → Leads links (suc k) k
  later : {links : List ℕ} {i k : ℕ} → Leads links (get_or links i 0) k → Leads links (suc i) k

-- t has the first m names of q
pub record HasNames (q : List ℕ) (t : Heads) (m : ℕ) : Type 0 where
  pub slots : length t.first ≡ 256
  pub names : (length t.links ≡ 24) × (length t.lengths ≡ 24)
  pub firsts : (s : ℕ) → s < 256 → get_or t.first s 0 ≤ m
  pub links : (k : ℕ) → k < 24 → get_or t.links k 0 ≤ k
  pub lengths : (k : ℕ) → k < m → get_or t.lengths k 0 ≡ length (void_name q k)
  pub leads : (k : ℕ) → k < m → 0 < length (void_name q k) → Leads t.links (get_or t.first (void_slot (void_name q k)) 0) k

-- what is_fixed and t tell of q's names: they are tl's, or t has them all
pub record Prepared (q : List ℕ) (is_fixed : Bool) (t : Heads) : Type 0 where
  pub fixed : is_fixed ≡ true → q ≡ tl_profile
  pub listed : is_fixed ≡ false → HasNames q t 24

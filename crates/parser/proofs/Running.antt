-- The loop over the steps: whatever reading was held at first, what is held now has the rest of the steps left.
use Rattle.std.proofs.Common.{Option, Some, None}
use mathlib.Core.Path.{◌≡◌, ap, ◌∙◌}
use mathlib.Core.Bool.{Bool}
use mathlib.Core.List.{List}
use Prim.Native.Nat.{ℕ, suc, ◌-◌, ◌≤◌, ◌<◌}
use native.Mathlib.Omega.{arith}
use lib.ListN.{length}
use Rattle.rules.specs.Lexer.{item_at}
use Rattle.rules.specs.Reader.{Reading, put, steps}
use Rattle.rules.specs.declared.Item.{Item}
use Rattle.rules.specs.declared.State.{State}
use Rattle.laws.proofs.Lockstep.{later, steps_done, step_on}
use Rattle.tree.specs.Held.{Represents, Step}
use Rattle.parser.specs.Parsing.{Good, Run}
use Rattle.parser.proofs.Readings.{good_step}

-- R₀ has become R, and k of the n steps are left
pub record Came (white : ℕ → Bool) (void : List ℕ → Bool) (p : List ℕ) (n k : ℕ) (t₁ t hd : List ℕ) (s : State) (R₀ : Reading) : Type 0 where
  pub R : Reading
  pub held : Represents t₁ t hd R s
  pub good : Good p R
  pub rest : steps white void p n R₀ ≡ steps white void p k R

-- and that whatever R₀ the table t₀ and the state s₀ held
pub record Along (white : ℕ → Bool) (void : List ℕ → Bool) (p : List ℕ) (n : ℕ)
    (t₀ : List ℕ) (s₀ : State) (t₁ : List ℕ) (s : State) (k : ℕ) : Type 0 where
  pub size : length t₁ ≡ length t₀
  pub came : (t hd : List ℕ) (R₀ : Reading) → Represents t₀ t hd R₀ s₀ → Good p R₀ → Came white void p n k t₁ t hd s R₀

module _ {white : ℕ → Bool} {void : List ℕ → Bool} {p : List ℕ} {n k : ℕ} {t₀ t₁ : List ℕ} {s₀ s : State}
    (A : Along white void p n t₀ s₀ t₁ s k) where
  -- ---- no step is left, or no byte

  run_done : ((t hd : List ℕ) (R₀ : Reading) (C : Came white void p n k t₁ t hd s R₀) → steps white void p k C.R ≡ C.R)
      → Run white void p n t₀ s₀ t₁ (Some s)
  run_done f =
      record {
        held = λ t hd R s₂ H G e. let C = A.came t hd R H G in let same : s ≡ s₂ = cc in rw (C.rest, f t hd R C, ← same) C.held;
        full = λ t hd R H G e. let z : ◌≡◌ {A = ℕ} 0 1 = cc in absurd (omega arith);
      }

  pub run_ended : length p ≤ s.at → Run white void p n t₀ s₀ t₁ (Some s)
  run_ended l = run_done (λ t hd R C. steps_done white void k p C.R (omega (arith, C.held.at)))

  pub run_last : k ≡ 0 → Run white void p n t₀ s₀ t₁ (Some s)
  unfolding steps
  run_last z = run_done (λ t hd R C. rw z)

  -- ---- one step more, which puts the item i

  module _ (some : 0 < k) (l : s.at < length p) {t₂ : List ℕ} {r : Option State} {i : Item} (e : i ≡ item_at white p s.at)
      (S : Step (λ (R : Reading). put void p R i) t₁ s t₂ r) where
    on : {t hd : List ℕ} {R₀ : Reading} (C : Came white void p n k t₁ t hd s R₀)
        → steps white void p n R₀ ≡ steps white void p (k - 1) (put void p C.R i)
    on C =
        let one : k ≡ suc (k - 1) = omega arith in
        let at : s.at ≡ C.R.at = C.held.at in
        C.rest ∙ ap (λ (m : ℕ). steps white void p m C.R) one ∙ step_on white void (k - 1) p C.R (omega arith) ∙ rw (e, at)

    pub run_full : r ≡ None → Run white void p n t₀ s₀ t₂ None
    run_full full =
        record {
          held = λ t hd R s₂ H G y. let z : ◌≡◌ {A = ℕ} 0 1 = cc in absurd (omega arith);
          full = λ t hd R H G y.
              let C = A.came t hd R H G in
              let more = (later white void (k - 1) p 0 (put void p C.R i) (omega arith)).longer in
              rw (on C) (omega (arith, S.full t hd C.R C.held full, A.size, more));
        }

    pub along_on : {q : State} → r ≡ Some q → length t₂ ≡ length t₁ → Along white void p n t₀ s₀ t₂ q (k - 1)
    along_on {q} room same =
        record {
          size = same ∙ A.size;
          came = λ t hd R H G.
              let C = A.came t hd R H G in
              let at : s.at ≡ C.R.at = C.held.at in
              record {
                R = put void p C.R i;
                held = S.held t hd C.R q C.held room;
                good = rw (e, at) (good_step white p void C.good (omega arith));
                rest = on C;
              };
        }

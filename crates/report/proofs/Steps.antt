-- The search for the first wrong word, step by step, over any tests. Assumes nothing.
use Rattle.std.proofs.Common.{◌≡◌, ℕ, zero, suc, ◌+◌, ◌<◌, ◌≤◌, Bool, true, false, cond, ◌&&◌, ltb, List, [], ◌∷◌, ◌++◌, length, get_or, drop, Some, None, sym, refl, ap, ◌∙◌, arith}
use Rattle.std.proofs.lemmas.List.{drop_more, drop_all}
use Rattle.std.proofs.lemmas.Bool.{lt-ltb, and_right}
use Rattle.std.proofs.lemmas.Bool.Decides.{nat_tests}
use Rattle.report.specs.declared.fault.WordFault.{WordFault}
use Rattle.report.specs.declared.fault.WordFault.TheVariants.{Missing, Wrong, Extra}
use Rattle.report.specs.Reading.{first_wrong}

abbrev Test : Type 0
Test = ℕ → Bool

-- A word that its test lets pass.
pub goes : (k : ℕ) (t : Test) (ts : List Test) (w : ℕ) (ws : List ℕ) → t w ≡ true → first_wrong k (t ∷ ts) (w ∷ ws) ≡ first_wrong (k + 1) ts ws
goes k t ts w ws e = ap (λ b. cond b (first_wrong (k + 1) ts ws) (Some (Wrong k))) e

stops : (k : ℕ) (t : Test) (ts : List Test) (w : ℕ) (ws : List ℕ) → t w ≡ false → first_wrong k (t ∷ ts) (w ∷ ws) ≡ Some (Wrong k)
stops k t ts w ws e = ap (λ b. cond b (first_wrong (k + 1) ts ws) (Some (Wrong k))) e

-- Where no word is wrong, the first has passed its test, and none of the others is wrong.
pub record Passed (k : ℕ) (t : Test) (ts : List Test) (ws : List ℕ) : Type 0 where
  pub first : ℕ
  pub others : List ℕ
  pub is : ws ≡ first ∷ others
  pub passes : t first ≡ true
  pub none : first_wrong (k + 1) ts others ≡ None

tested : (k : ℕ) (t : Test) (ts : List Test) (w : ℕ) (ws : List ℕ) (b : Bool) → t w ≡ b → first_wrong k (t ∷ ts) (w ∷ ws) ≡ None → Passed k t ts (w ∷ ws)
tested k t ts w ws true e n = record { first = w; others = ws; is = refl; passes = e; none = sym (goes k t ts w ws e) ∙ n }
tested k t ts w ws false e n = let z : ◌≡◌ {A = ℕ} 0 1 = cc (stops k t ts w ws e) in absurd (let f : ⊥ = omega arith in f)

pub passed : (k : ℕ) (t : Test) (ts : List Test) (ws : List ℕ) → first_wrong k (t ∷ ts) ws ≡ None → Passed k t ts ws
passed k t ts [] n = let z : ◌≡◌ {A = ℕ} 0 1 = cc in absurd (let f : ⊥ = omega arith in f)
passed k t ts (w ∷ ws) n = tested k t ts w ws (t w) refl n

pub ended : (k : ℕ) (ws : List ℕ) → first_wrong k [] ws ≡ None → ws ≡ []
ended k [] n = refl
ended k (w ∷ ws) n = let z : ◌≡◌ {A = ℕ} 0 1 = cc in absurd (let f : ⊥ = omega arith in f)

-- The words of a row whose first tests have let them pass, and what is left of it for the others.
unfoldable pub Pass : ℕ → List Test → List Test → List ℕ → Type 0
Pass k [] us ws = first_wrong k us ws ≡ None
Pass k (t ∷ ts) us ws = (w : ℕ) × (rest : List ℕ) × (ws ≡ w ∷ rest) × (t w ≡ true) × Pass (k + 1) ts us rest

pub pass : (k : ℕ) (ts us : List Test) (ws : List ℕ) → first_wrong k (ts ++ us) ws ≡ None → Pass k ts us ws
unfolding Pass
pass k [] us ws n = n
pass k (t ∷ ts) us ws n = let p = passed k t (ts ++ us) ws n in (p.first, p.others, p.is, p.passes, pass (k + 1) ts us p.others p.none)

-- The first wrong word is at the place that the fault names, and those before it are right.
abbrev pub place : WordFault → ℕ
place (Missing k) = k
place (Wrong k) = k
place (Extra k) = k

abbrev pub pass_at : List Test → List ℕ → ℕ → Bool
pass_at ts ws j = ltb j (length ws) && get_or ts j (λ _. false) (get_or ws j 0)

pub record First (k : ℕ) (ts : List Test) (ws : List ℕ) (f : WordFault) : Type 0 where
  pub after : ℕ
  pub is : place f ≡ k + after
  pub right : (j : ℕ) → j < after → pass_at ts ws j ≡ true
  pub wrong : pass_at ts ws after ≡ false

here : (k : ℕ) (ts : List Test) (ws : List ℕ) (f g : WordFault) → Some f ≡ Some g → place f ≡ k → pass_at ts ws 0 ≡ false → First k ts ws g
here k ts ws f g same at wrong =
    let found : g ≡ f = cc in
    record { after = 0; is = ap place found ∙ at ∙ omega arith; right = λ j l. absurd (let z : ⊥ = omega arith in z); wrong = wrong }

later : (k : ℕ) (t : Test) (ts : List Test) (w : ℕ) (ws : List ℕ) (f : WordFault) → t w ≡ true → First (k + 1) ts ws f → First k (t ∷ ts) (w ∷ ws) f
later k t ts w ws f e rest =
    record {
      after = suc rest.after;
      is = rest.is ∙ omega arith;
      right = one;
      wrong = ap (λ b. b && get_or ts rest.after (λ _. false) (get_or ws rest.after 0)) (shifted rest.after) ∙ rest.wrong;
    }
  where
    shifted : (j : ℕ) → ltb (suc j) (suc (length ws)) ≡ ltb j (length ws)
    shifted j = grind (arith, nat_tests)

    one : (j : ℕ) → j < suc rest.after → pass_at (t ∷ ts) (w ∷ ws) j ≡ true
    one zero l = ap (λ b. b && t w) (lt-ltb 0 (suc (length ws)) (omega arith)) ∙ e
    one (suc j) l = ap (λ b. b && get_or ts j (λ _. false) (get_or ws j 0)) (shifted j) ∙ rest.right j (omega arith)

pub found_first : (k : ℕ) (ts : List Test) (ws : List ℕ) (f : WordFault) → first_wrong k ts ws ≡ Some f → First k ts ws f
found_first k [] [] f e = let z : ◌≡◌ {A = ℕ} 0 1 = cc in absurd (let f : ⊥ = omega arith in f)
found_first k [] (w ∷ ws) f e = here k [] (w ∷ ws) (Extra k) f e refl (and_right (ltb 0 (suc (length ws))) false refl)
found_first k (t ∷ ts) [] f e = here k (t ∷ ts) [] (Missing k) f e refl refl
found_first k (t ∷ ts) (w ∷ ws) f e = by (t w) refl (λ p. found_first (k + 1) ts ws f (sym (goes k t ts w ws p) ∙ e))
  where
    by : (b : Bool) → t w ≡ b → (t w ≡ true → First (k + 1) ts ws f) → First k (t ∷ ts) (w ∷ ws) f
    by true p rest = later k t ts w ws f p (rest p)
    by false p rest = here k (t ∷ ts) (w ∷ ws) (Wrong k) f (sym (stops k t ts w ws p) ∙ e) refl (and_right (ltb 0 (suc (length ws))) (t w) p)

-- At place k of the row.
module _ (ts : List Test) (ws : List ℕ) (k : ℕ) (d : Test) where
  pub right_at : k < length ts → k < length ws → get_or ts k d (get_or ws k 0) ≡ true → first_wrong k (drop k ts) (drop k ws) ≡ first_wrong (k + 1) (drop (k + 1) ts) (drop (k + 1) ws)
  right_at ht hw e =
      (λ i. first_wrong k (drop_more ts k d ht i) (drop_more ws k 0 hw i)) ∙ goes k (get_or ts k d) (drop (k + 1) ts) (get_or ws k 0) (drop (k + 1) ws) e

  pub wrong_at : k < length ts → k < length ws → get_or ts k d (get_or ws k 0) ≡ false → first_wrong k (drop k ts) (drop k ws) ≡ Some (Wrong k)
  wrong_at ht hw e =
      (λ i. first_wrong k (drop_more ts k d ht i) (drop_more ws k 0 hw i)) ∙ stops k (get_or ts k d) (drop (k + 1) ts) (get_or ws k 0) (drop (k + 1) ws) e

  pub missing_at : k < length ts → length ws ≤ k → first_wrong k (drop k ts) (drop k ws) ≡ Some (Missing k)
  missing_at ht hw = (λ i. first_wrong k (drop_more ts k d ht i) (drop_all k ws hw i))

  pub extra_at : length ts ≤ k → k < length ws → first_wrong k (drop k ts) (drop k ws) ≡ Some (Extra k)
  extra_at ht hw = (λ i. first_wrong k (drop_all k ts ht i) (drop_more ws k 0 hw i))

  pub done_at : length ts ≤ k → length ws ≤ k → first_wrong k (drop k ts) (drop k ws) ≡ None
  done_at ht hw = (λ i. first_wrong k (drop_all k ts ht i) (drop_all k ws hw i))

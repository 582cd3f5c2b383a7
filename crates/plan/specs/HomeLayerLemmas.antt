-- A home layer over a lawful plan is lawful, and what stands at an address is what its relation says. Assumes nothing.
use Rattle.std.specs.Prelude.{◌≡◌, ℕ, ◌^◌, ◌<◌, Some, None, Option}
use Rattle.std.proofs.Common.{sym, ◌∙◌, arith}
use Rattle.std.proofs.lemmas.Bool.Decides.{nat_tests}
use Rattle.plan.specs.Places.{Exists}
use Rattle.plan.specs.Meaning.{Lawful, Exactly}
use Rattle.plan.specs.HomeLayer.{home_serves, home_stands, HomeServes}

-- `o` and `q` are what the plan below answers of p and of a
module _ (s : ℕ) (p : ℕ × ℕ) (a : ℕ) where
  place_by : (o : Option ℕ) → (o ≡ Some a → Exists p) → home_serves s (λ _. o) p ≡ Some a → Exists p
  place_by None h e = grind (arith, nat_tests)
  place_by (Some x) h e = grind (arith, nat_tests)

  address_by : (o : Option ℕ) → (o ≡ Some a → a < 2 ^ 32) → home_serves s (λ _. o) p ≡ Some a → a < 2 ^ 32
  address_by None h e = grind (arith, nat_tests)
  address_by (Some x) h e = grind (arith, nat_tests)

  found_by : (o : Option ℕ) (q : Option (ℕ × ℕ)) → (o ≡ Some a → q ≡ Some p) → home_serves s (λ _. o) p ≡ Some a → home_stands s (λ _. q) a ≡ Some p
  found_by None q h e = grind (arith, nat_tests)
  found_by (Some x) q h e = grind (arith, nat_tests)

  given_by : (q : Option (ℕ × ℕ)) (o : Option ℕ) → (q ≡ Some p → o ≡ Some a) → home_stands s (λ _. q) a ≡ Some p → home_serves s (λ _. o) p ≡ Some a
  given_by None o h e = grind (arith, nat_tests)
  given_by (Some x) o h e = grind (arith, nat_tests)

pub home_lawful : (s : ℕ) (serves : ℕ × ℕ → Option ℕ) (stands : ℕ → Option (ℕ × ℕ)) → Lawful serves stands → Lawful (home_serves s serves) (home_stands s stands)
home_lawful s serves stands below =
    let found = λ (p : ℕ × ℕ) (a : ℕ) (e : home_serves s serves p ≡ Some a). found_by s p a (serves p) (stands a) (below.found p a) e in
    record {
      places = λ p a. place_by s p a (serves p) (below.places p a);
      addresses = λ p a. address_by s p a (serves p) (below.addresses p a);
      found = found;
      given = λ p a. given_by s p a (stands a) (serves p) (below.given p a);
      unshared = λ p q a e f. let h = found p a e in let k = found q a f in cc;
    }

-- `o` is what the plan below answers of p
served_as_said : (s : ℕ) (p : ℕ × ℕ) (a : ℕ) (o : Option ℕ) → home_serves s (λ _. o) p ≡ Some a → HomeServes s (λ _ b. o ≡ Some b) p a
served_as_said s p a None e = grind (arith, nat_tests)
served_as_said s p a (Some x) e = grind (arith, nat_tests)

said_is_served : (s : ℕ) (p : ℕ × ℕ) (a : ℕ) (o : Option ℕ) → HomeServes s (λ _ b. o ≡ Some b) p a → home_serves s (λ _. o) p ≡ Some a
said_is_served s p a None h = grind (arith, nat_tests)
said_is_served s p a (Some x) h = grind (arith, nat_tests)

pub stands_as_said :
    (s : ℕ) (serves : ℕ × ℕ → Option ℕ) (stands : ℕ → Option (ℕ × ℕ)) → Lawful serves stands → (a : ℕ) (o : Option (ℕ × ℕ)) → o ≡ home_stands s stands a
    → Exactly (λ p. HomeServes s (λ q b. serves q ≡ Some b) p a) o
stands_as_said s serves stands below a o e =
    let laws = home_lawful s serves stands below in
    record {
      only = λ p f. served_as_said s p a (serves p) (laws.given p a (sym e ∙ f));
      each = λ p h. e ∙ laws.found p a (said_is_served s p a (serves p) h);
    }

-- Numbers in bytes and back.
use Rattle.std.proofs.Common.{◌≡◌, ℕ, ◌+◌, ◌*◌, ◌/◌, ◌%◌, ◌^◌, ◌<◌, List, ◌++◌, ap, ◌∙◌, append_assoc, arith}
use Rattle.rules.specs.Tables.{number}
use Rattle.jobs.specs.Writes.{bytes}

pub two_back : (a : ℕ) (t : List ℕ) → a < 65536 → number (bytes 2 a ++ t) 0 2 ≡ a
two_back a t h = omega arith

pub two_back_2 : (a b : ℕ) (t : List ℕ) → b < 65536 → number (bytes 2 a ++ (bytes 2 b ++ t)) 2 2 ≡ b
two_back_2 a b t h = omega arith

-- the next byte
horner : (x v : ℕ) → x ≡ v / 256 → x * 256 + v % 256 ≡ v
horner x v e = omega arith

pub eight_back : (v : ℕ) (t : List ℕ) → v < 2 ^ 64 → number (bytes 8 v ++ t) 0 8 ≡ v
eight_back v t h =
    horner _ v (horner _ (v / 256) (horner _ (v / 256 / 256) (horner _ (v / 256 / 256 / 256) (horner _ (v / 256 / 256 / 256 / 256)
    (horner _ (v / 256 / 256 / 256 / 256 / 256) (horner _ (v / 256 / 256 / 256 / 256 / 256 / 256) (top v h)))))))
  where
    top : (v : ℕ) → v < 2 ^ 64 → 0 * 256 + v / 256 / 256 / 256 / 256 / 256 / 256 / 256 % 256 ≡ v / 256 / 256 / 256 / 256 / 256 / 256 / 256
    top v h = omega arith

-- parts that are added one after another
module _ {X : Type 0} where
  chain_2 : (u a b v w : List X) → v ≡ u ++ a → w ≡ v ++ b → w ≡ u ++ (a ++ b)
  chain_2 u a b v w p q = q ∙ (ap (λ t. t ++ b) p ∙ append_assoc u a b)

  pub chain_3 : (u a b c v w x : List X) → v ≡ u ++ a → w ≡ v ++ b → x ≡ w ++ c → x ≡ u ++ (a ++ (b ++ c))
  chain_3 u a b c v w x p q r = chain_2 u a (b ++ c) v x p (chain_2 v b c w x q r)

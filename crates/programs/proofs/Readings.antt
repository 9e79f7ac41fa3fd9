-- What is read of an input whose bytes are known.
use Rattle.std.proofs.Common.{◌≡◌, ℕ, List, [], ◌++◌, take, Some, None, Option, IfSome, refl}
use Rattle.std.specs.Option.{option_map}

-- all that a limited reader gives is the front of what the input has
pub read_of : (known of_input : Option (List ℕ)) (limit : ℕ) (before after : List ℕ) → known ≡ of_input → limit ≡ 65537 → before ≡ [] → IfSome (option_map (λ bytes. take limit bytes) known) (λ bytes. after ≡ before ++ bytes) → IfSome of_input (λ bytes. after ≡ take 65537 bytes)
read_of (Some bs) (Some cs) limit before after e f g h =
    let same : bs ≡ cs = cc in
    let all : after ≡ before ++ take limit bs = h in
    rw (all, f, g, same) refl
read_of (Some bs) None limit before after e f g h = tt
read_of None (Some cs) limit before after e f g h = absurd (let z : ⊥ = cc in z)
read_of None None limit before after e f g h = tt

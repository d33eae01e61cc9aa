-- Draws are powers.
use Rattle.std.proofs.Common.{◌≡◌, ℕ, zero, suc, ◌+◌, ◌*◌, ◌%◌, ◌^◌, ◌∙◌, ap, arith, sym}
use Rattle.std.proofs.Math.Nat.{mod-add-mod, pow-suc}
use Rattle.std.proofs.lemmas.Nat.{mul-mod_first}
use Rattle.demo.specs.Draws.{draw, draw_bound, next_draw}
use Rattle.demo.specs.Laws.{DrawsArePowers}

next_power : (d p : ℕ) → (d + 1) % draw_bound ≡ p % draw_bound → (next_draw d + 1) % draw_bound ≡ (p * 75) % draw_bound
next_power d p same =
    let shifted : 75 * d + 74 + 1 ≡ (d + 1) * 75 = omega arith in
    mod-add-mod (75 * d + 74) draw_bound 1 ∙ (ap (λ n. n % draw_bound) shifted ∙ (sym (mul-mod_first (d + 1) 75 draw_bound) ∙ (ap (λ n. (n * 75) % draw_bound) same ∙ mul-mod_first p 75 draw_bound)))

power_suc : (p number : ℕ) → p * (number + 1) * 75 ≡ p * 75 * (number + 1)
power_suc p number = omega arith

pub draws_powers : DrawsArePowers
unfolding draw
draws_powers number zero =
    let one_power : number + 1 ≡ 75 ^ 0 * (number + 1) = omega arith in
    mod-add-mod number draw_bound 1 ∙ ap (λ n. n % draw_bound) one_power
draws_powers number (suc place) =
    let power : 75 ^ suc place ≡ 75 ^ place * 75 = pow-suc 75 place in
    next_power (draw number place) (75 ^ place * (number + 1)) (draws_powers number place) ∙ ap (λ n. n % draw_bound) (power_suc (75 ^ place) number ∙ ap (λ n. n * (number + 1)) (sym power))

-- What a contract sees of a `List`.
use Rattle.std.specs.Prelude.{ℕ, List, slice_set, refl}
use Rattle.std.specs.Coded.{Coded, code_by, coded×, coded_list, coded_ℕ}

-- the items, in order, and how many can be added without memory
pub record Listed (T : Type 0) : Type 0 where
  pub items : List T
  pub spare : ℕ

module _ {T : Type 0} where
  -- a list is stored as the pair of its fields
  abbrev pub listed_code : Coded T → Coded (Listed T)
  listed_code code =
      code_by (List T × ℕ) (coded× (coded_list code) coded_ℕ) (λ l. (l.items, l.spare))
      (λ p. record { items = p.0; spare = p.1 }) (λ _. refl)

  -- the same list with another item at this index
  abbrev pub with_item : Listed T → ℕ → T → Listed T
  with_item l i item = record { items = slice_set l.items i item; spare = l.spare }

-- A table after a load. Assumes nothing.
use Rattle.std.proofs.Common.{◌≡◌, ℕ, ◌+◌, ◌<◌, ◌≤◌, List, [], ◌∷◌, ◌++◌, length, pos, negsuc, ◌≤ℤ◌, Some, None, Ok, Err, vec_items, Result, sym, refl, ap, ◌∙◌, subst, arith}
use Rattle.std.proofs.lemmas.List.{length_push}
use Rattle.sheet.proofs.Exactness.{exact, fine_from, is_sheet, rows_some, rows_most}
use Rattle.sheet.proofs.Loads.{closing_bounds, front_sound}
use Rattle.sheet.proofs.Reading.{front_push}
use Rattle.sheet.specs.Bytes.{sheet_bytes}
use Rattle.sheet.specs.Loads.{Exact, Loaded, Redrawn, byte, fault_in, rows_in}
use Rattle.sheet.specs.Soundness.{AllSound}
use Rattle.sheet.specs.Tables.{closing_of, final, front, table_meaning}
use Rattle.sheet.specs.declared.faults.LoadFault.{LoadFault}
use Rattle.sheet.specs.declared.faults.LoadFault.TheVariants.{BadSheet, NoMemory}
use Rattle.sheet.specs.declared.faults.SheetFault.{SheetFault}
use Rattle.sheet.specs.declared.rows.Row.{Row}
use Rattle.sheet.specs.declared.tables.Table.{Table}

-- what a load ensures of the table and of the result
abbrev pub Done : ℕ → List ℕ → Table → Table → Result ℕ LoadFault → Type 0
Done m bytes t t' r = record { loaded : Loaded (fault_in m bytes) m bytes t t' r; exact : Exact m bytes; redrawn : Redrawn m bytes t' r }

module _ (m : ℕ) (bytes : List ℕ) where
  pub refused_for : byte bytes 6 < 256 → (t : Table) (e : SheetFault) (r : Result ℕ LoadFault) → r ≡ Err (BadSheet e) → fault_in m bytes ≡ Some e → Done m bytes t t r
  refused_for small t e r is fault = rw is (record { loaded = subst (λ f. Loaded f m bytes t t (Err (BadSheet e))) (sym fault) (refl, refl); exact = exact m bytes small; redrawn = tt })

  pub no_memory : byte bytes 6 < 256 → (t : Table) (r : Result ℕ LoadFault) → r ≡ Err NoMemory → fault_in m bytes ≡ None → Done m bytes t t r
  no_memory small t r is none = rw is (record { loaded = subst (λ f. Loaded f m bytes t t (Err NoMemory)) (sym none) (refl, refl); exact = exact m bytes small; redrawn = tt })

  -- rows without a fault, but for the last, and the last
  module _ (none : fault_in m bytes ≡ None) (rows : List Row) (last : Row) (all : rows ++ (last ∷ []) ≡ rows_in bytes) where
    fronts : rows ≡ front (rows_in bytes)
    fronts = sym (front_push rows last).0 ∙ ap front all

    ends : closing_of last ≡ closing_of (final (rows_in bytes))
    ends = ap closing_of (sym (front_push rows last).1 ∙ ap final all)

    pub keeps_few : length rows + 1 ≤ 4096
    keeps_few = omega (arith, sym (length_push rows last) ∙ ap length all, rows_most m bytes (fine_from m bytes none))

    pub keeps_sound : AllSound rows
    keeps_sound =
        let f = fine_from m bytes none in
        subst AllSound (sym fronts) (front_sound m (rows_in bytes) (rows_some m bytes f) (rows_most m bytes f) f.rows).1

    pub keeps_closing : (negsuc 0 ≤ℤ closing_of last) × (closing_of last ≤ℤ pos 253)
    keeps_closing =
        let f = fine_from m bytes none in
        subst (λ z. (negsuc 0 ≤ℤ z) × (z ≤ℤ pos 253)) (sym ends) (closing_bounds m (rows_in bytes) (rows_some m bytes f) f.rows)

    pub taken : byte bytes 6 < 256 → (t t' : Table) (n : ℕ) → vec_items t'.rows ≡ rows → t'.closing ≡ closing_of last → n ≡ length rows + 1 → Done m bytes t t' (Ok n)
    taken small t t' n items closing number =
        let same : n ≡ length (rows_in bytes) = number ∙ sym (length_push rows last) ∙ ap length all in
        record {
          loaded = subst (λ f. Loaded f m bytes t t' (Ok n)) (sym none) (same, items ∙ fronts, closing ∙ ends);
          exact = exact m bytes small;
          redrawn = ap (λ l. sheet_bytes m (table_meaning l t'.closing)) (items ∙ fronts) ∙ ap (λ z. sheet_bytes m (table_meaning (front (rows_in bytes)) z)) (closing ∙ ends) ∙ is_sheet m bytes (fine_from m bytes none) small;
        }

-- The lent tables in a contract: at entry and at exit, or held where nothing has run yet.
use Rattle.std.specs.Prelude.{ℕ, List, Float}
use Rattle.std.specs.Borrow.{Bor, MutBor}
use denote.Triple.Both.{Both}
use Rattle.tables.specs.Tables.{Tables, tables}
use Rattle.tables.specs.declared.lent.ReadTables.{ReadTables}
use Rattle.tables.specs.declared.lent.OpenTables.{OpenTables}
use Rattle.tables.specs.declared.lent.ZoneTables.{ZoneTables}
use Rattle.tables.specs.declared.lent.ReportTables.{ReportTables}
use Rattle.tables.specs.declared.lent.LeaveTables.{LeaveTables}

-- a slice lent to write, at entry and at exit
abbrev pub Slice : Type 0 → Type 0
Slice A = Both (MutBor (List A)) (MutBor (List A))

-- what a lent slice holds at entry and at exit
abbrev pub Held : Type 0 → Type 0
Held A = Both (List A) (List A)

abbrev pub as_written : {A : Type 0} → Slice A → Held A
as_written s = record { entry = s.entry.now; exit = s.exit.now }

abbrev pub as_read : {A : Type 0} → Both (Bor (List A)) (Bor (List A)) → Held A
as_read s = record { entry = s.entry.now; exit = s.exit.now }

-- the tables at entry and at exit
abbrev pub lent : Held ℕ → Held ℕ → Held ℕ → Held Float → Held ℕ → Held ℕ → Held ℕ → Held ℕ → Both Tables Tables
lent h z c p s e r n = record {
  entry = tables h.entry z.entry c.entry p.entry s.entry e.entry r.entry n.entry;
  exit = tables h.exit z.exit c.exit p.exit s.exit e.exit r.exit n.exit;
}

-- in a requires
abbrev pub given : List ℕ → List ℕ → List ℕ → List Float → List ℕ → List ℕ → List ℕ → List ℕ → Tables
given h z c p s e r n = tables h z c p s e r n

-- from some tables to others
abbrev pub both : Tables → Tables → Both Tables Tables
both t t' = record { entry = t; exit = t' }

-- ---- the tables as a struct that holds them: what it holds in a requires, and at entry and at exit in an ensures

abbrev pub Reads : Type 0 → Type 0
Reads A = Bor (List A)

abbrev pub Writes : Type 0 → Type 0
Writes A = MutBor (List A)

-- what a struct of eight fields leaves
abbrev pub Eight : Type 0 → Type 0 → Type 0 → Type 0 → Type 0 → Type 0 → Type 0 → Type 0 → Type 0
Eight H Z C P S E R N = H × (Z × (C × (P × (S × (E × (R × (N × Unit {0})))))))

abbrev pub given_read : ReadTables → Tables
given_read t = tables t.head.now t.zones.now t.cars.now t.spots.now t.starts.now t.entries.now t.rosters.now t.tallies.now

abbrev pub lent_read : Both ReadTables ReadTables → Both Tables Tables
lent_read t = record { entry = given_read t.entry; exit = given_read t.exit }

abbrev pub given_open : OpenTables → Tables
given_open t = tables t.head.now t.zones.now t.cars.now t.spots.now t.starts.now t.entries.now t.rosters.now t.tallies.now

abbrev pub lent_open : Both OpenTables (Eight (Writes ℕ) (Writes ℕ) (Writes ℕ) (Writes Float) (Writes ℕ) (Writes ℕ) (Writes ℕ) (Writes ℕ)) → Both Tables Tables
lent_open t = record { entry = given_open t.entry; exit = tables t.exit.0.now t.exit.1.0.now t.exit.1.1.0.now t.exit.1.1.1.0.now t.exit.1.1.1.1.0.now t.exit.1.1.1.1.1.0.now t.exit.1.1.1.1.1.1.0.now t.exit.1.1.1.1.1.1.1.0.now }

abbrev pub given_zone : ZoneTables → Tables
given_zone t = tables t.head.now t.zones.now t.cars.now t.spots.now t.starts.now t.entries.now t.rosters.now t.tallies.now

abbrev pub lent_zone : Both ZoneTables (Eight (Reads ℕ) (Writes ℕ) (Reads ℕ) (Reads Float) (Writes ℕ) (Writes ℕ) (Writes ℕ) (Writes ℕ)) → Both Tables Tables
lent_zone t = record { entry = given_zone t.entry; exit = tables t.exit.0.now t.exit.1.0.now t.exit.1.1.0.now t.exit.1.1.1.0.now t.exit.1.1.1.1.0.now t.exit.1.1.1.1.1.0.now t.exit.1.1.1.1.1.1.0.now t.exit.1.1.1.1.1.1.1.0.now }

abbrev pub given_report : ReportTables → Tables
given_report t = tables t.head.now t.zones.now t.cars.now t.spots.now t.starts.now t.entries.now t.rosters.now t.tallies.now

abbrev pub lent_report : Both ReportTables (Eight (Reads ℕ) (Reads ℕ) (Writes ℕ) (Writes Float) (Reads ℕ) (Reads ℕ) (Writes ℕ) (Writes ℕ)) → Both Tables Tables
lent_report t = record { entry = given_report t.entry; exit = tables t.exit.0.now t.exit.1.0.now t.exit.1.1.0.now t.exit.1.1.1.0.now t.exit.1.1.1.1.0.now t.exit.1.1.1.1.1.0.now t.exit.1.1.1.1.1.1.0.now t.exit.1.1.1.1.1.1.1.0.now }

abbrev pub given_leave : LeaveTables → Tables
given_leave t = tables t.head.now t.zones.now t.cars.now t.spots.now t.starts.now t.entries.now t.rosters.now t.tallies.now

abbrev pub lent_leave : Both LeaveTables (Eight (Reads ℕ) (Reads ℕ) (Writes ℕ) (Reads Float) (Reads ℕ) (Reads ℕ) (Writes ℕ) (Writes ℕ)) → Both Tables Tables
lent_leave t = record { entry = given_leave t.entry; exit = tables t.exit.0.now t.exit.1.0.now t.exit.1.1.0.now t.exit.1.1.1.0.now t.exit.1.1.1.1.0.now t.exit.1.1.1.1.1.0.now t.exit.1.1.1.1.1.1.0.now t.exit.1.1.1.1.1.1.1.0.now }

use Rattle.nsf.proofs.led.serve_led.Given as goal

abbrev pub ghosts-begin : goal.ghosts-begin
ghosts-begin g a = record { site = a.store.site }

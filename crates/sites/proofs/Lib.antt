mod Ballots

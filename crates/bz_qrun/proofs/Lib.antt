mod RunLemmas

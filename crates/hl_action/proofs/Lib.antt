mod Tags
